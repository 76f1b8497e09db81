-- Where the faults of terms that are asked for are, and of lists of them.
use Rattle.std.proofs.Common.{Bool, true, false, List, [], ◌∷◌, All, Option, Some, None, codes, if◌then◌else◌, refl}
use Rattle.std.proofs.lemmas.List.Elements.{All-nil, All-append}
use Rattle.ffc_term.specs.declared.node.Sort.{Sort}
use Rattle.ffc_term.specs.declared.node.Sort.TheVariants as sort
use Rattle.ffc_smt.specs.Trees.{Word, Tree, Leaf, Group, items_of, tokens_of, name_of}
use Rattle.ffc_smt.specs.Terms.{Name}
use Rattle.ffc_smt.specs.FaultLaws.{IsAtOneOf}
use Rattle.ffc_smt.specs.Faults.{Fault, Read, Sound, Faulty, faults, faulty, unless, read_map, both, behind}
use Rattle.ffc_smt.specs.Scopes.{State, scope_of}
use Rattle.ffc_smt.specs.TermReading.{Sorted, is_named, is_sort, term_named, term_read}
use Rattle.ffc_smt.specs.CommandReading.{limits, of_sort, asked_read, each, some_item, list_read, negated, assumed, assumption_of, assumption_read}
use Rattle.ffc_smt.proofs.ConstantLemmas.{meant_constants_any}
use Rattle.ffc_smt.proofs.PlaceLemmas.{each_from}
use Rattle.ffc_smt.proofs.TermWalk.{reads_term, reads_term_named}
use Rattle.ffc_smt.proofs.WalkLemmas.{EachToken, EachIn, MayFail, each_in, one_fault}
use Rattle.ffc_elab.specs.declared.asked_lists.Listed.{Listed}
use Rattle.ffc_elab.specs.declared.asked_lists.Listed.TheVariants as listed
use Rattle.ffc_elab.specs.AskedLists.{listed_read}

module _ (P : Fault → Type 0) where
  all_map : {A B : Type 0} (f : A → B) (r : Read A) → All P (faults r) → All P (faults (read_map f r))
  all_map f (Sound a) h = h
  all_map f (Faulty g gs) h = h

  all_both : {A B : Type 0} (r : Read A) (q : Read B) → All P (faults r) → All P (faults q) → All P (faults (both r q))
  all_both (Sound a) (Sound b) h k = h
  all_both (Sound a) (Faulty f fs) h k = k
  all_both (Faulty f fs) q h k = All-append P (f ∷ fs) (faults q) h k

  all_behind : {A B : Type 0} (r : Read A) (next : A → Read B) → All P (faults r) → ((a : A) → All P (faults (next a))) → All P (faults (behind r next))
  all_behind (Sound a) next h k = k a
  all_behind (Faulty f fs) next h k = h

  all_unless : {A : Type 0} (fs : List Fault) (r : Read A) → All P fs → All P (faults r) → All P (faults (unless fs r))
  all_unless [] r h k = k
  all_unless (f ∷ fs) r h k = All-append P (f ∷ fs) (faults r) h k

  all_either : {A : Type 0} (b : Bool) (r q : Read A) → All P (faults r) → All P (faults q) → All P (faults (if b then r else q))
  all_either true r q h k = h
  all_either false r q h k = k

  sort_at : (wanted : Sort) (w : Word) (t : Sorted) → MayFail P w → All P (faults (of_sort wanted w t))
  sort_at wanted w t m = all_either (is_sort wanted t.sort) (Sound t.term) (faulty 10 w) (All-nil P) (one_fault P 10 w m)

  asked_at : (s : State) (t : Tree) → EachToken (MayFail P) t → All P (faults (asked_read limits s t))
  asked_at s t m =
      all_map (λ x. record { tree = t; term = x.term }) (term_read 65536 (scope_of s) [] t)
      ((reads_term P (λ k u. Unit {0}) 65536 (scope_of s) (λ name meant e. meant_constants_any (λ k u. Unit {0}) (λ k u. tt) meant) t [] m).0)

  assumed_at : (s : State) (at w : Word) (o : Option Name) → MayFail P at → MayFail P w → All P (faults (assumed s at w o))
  assumed_at s at w None m n = one_fault P 5 at m
  assumed_at s at w (Some name) m n =
      all_behind (term_named (scope_of s) [] w name) (of_sort sort.Bool w)
      ((reads_term_named P (λ k u. Unit {0}) 65536 (scope_of s) (λ name meant e. meant_constants_any (λ k u. Unit {0}) (λ k u. tt) meant) [] w name n).0)
      (λ x. sort_at sort.Bool w x n)

  assumption_of_at : (s : State) (opening : Word) (ts : List Tree) → MayFail P opening → EachIn (MayFail P) ts → All P (faults (assumption_of s opening ts))
  assumption_of_at s opening [] m i = one_fault P 5 opening m
  assumption_of_at s opening (Group o items c ∷ rest) m i = one_fault P 5 opening m
  assumption_of_at s opening (Leaf head ∷ []) m i = one_fault P 5 opening m
  assumption_of_at s opening (Leaf head ∷ Group o items c ∷ rest) m i = one_fault P 5 opening m
  assumption_of_at s opening (Leaf head ∷ Leaf w ∷ t ∷ rest) m i = one_fault P 5 opening m
  assumption_of_at s opening (Leaf head ∷ Leaf w ∷ []) m i =
      all_either (is_named (codes "not") head) (read_map negated (assumed s opening w (name_of w))) (faulty 5 opening)
      (all_map negated (assumed s opening w (name_of w)) (assumed_at s opening w (name_of w) m i.1.0)) (one_fault P 5 opening m)

  assumption_at : (s : State) (t : Tree) → EachToken (MayFail P) t → All P (faults (assumption_read s t))
  assumption_at s (Leaf w) m = assumed_at s w w (name_of w) m m
  assumption_at s (Group opening items closing) m = assumption_of_at s opening (items_of items) m.0 (each_in (MayFail P) items m.1)

  listed_at : (which : Listed) (s : State) (t : Tree) → EachToken (MayFail P) t → All P (faults (listed_read which s t))
  listed_at listed.Values s t m = asked_at s t m
  listed_at listed.Assumptions s t m = all_map (λ x. record { tree = t; term = x }) (assumption_read s t) (assumption_at s t m)

-- the faults of what is read of a tree are at its tokens
abbrev pub FaultsInside : {A : Type 0} → (Tree → Read A) → Type 1
FaultsInside read = (P : Fault → Type 0) (t : Tree) → EachToken (MayFail P) t → All P (faults (read t))

pub listed_inside : (which : Listed) (s : State) → FaultsInside (listed_read which s)
listed_inside which s = λ P t m. listed_at P which s t m

pub each_there : {A : Type 0} (read : Tree → Read A) → FaultsInside read → (P : Fault → Type 0) (ts : List Tree) → EachIn (MayFail P) ts → All P (faults (each read ts))
each_there read inside P [] m = All-nil P
each_there read inside P (t ∷ ts) m = all_map P (λ p. p.0 ∷ p.1) (both (read t) (each read ts)) (all_both P (read t) (each read ts) (inside P t m.0) (each_there read inside P ts m.1))

some_there : (P : Fault → Type 0) (empty : Bool) (closing : Word) (ts : List Tree) → MayFail P closing → All P (if empty then [] else some_item closing ts)
some_there P true closing ts m = All-nil P
some_there P false closing [] m = one_fault P 5 closing m
some_there P false closing (t ∷ ts) m = All-nil P

pub list_inside : {A : Type 0} (empty : Bool) (read : Tree → Read A) → FaultsInside read → FaultsInside (list_read empty read)
list_inside empty read inside = by_tree
  where
    by_tree : (P : Fault → Type 0) (t : Tree) → EachToken (MayFail P) t → All P (faults (list_read empty read t))
    by_tree P (Leaf w) m = one_fault P 5 w m
    by_tree P (Group opening items closing) m =
        all_unless P (if empty then [] else some_item closing (items_of items)) (each read (items_of items)) (some_there P empty closing (items_of items) m.2)
        (each_there read inside P (items_of items) (each_in (MayFail P) items m.1))

-- at the tokens of a tree
pub inside_tokens : {A : Type 0} (read : Tree → Read A) → FaultsInside read → (t : Tree) → All (IsAtOneOf (tokens_of t)) (faults (read t))
inside_tokens read inside t =
    inside (IsAtOneOf (tokens_of t)) t (each_from (MayFail (IsAtOneOf (tokens_of t))) t (λ w has code. record { word = w; among = has; line = refl; column = refl }))
