-- Items with terms, and where their faults are.
use Rattle.std.proofs.Common.{◌≡◌, ℕ, ◌+◌, Bool, true, false, List, [], ◌∷◌, ◌++◌, All, map, drop, length, if◌then◌else◌, Result, Ok, Err, refl, sym, ap, ◌∙◌, subst}
use Rattle.std.proofs.lemmas.List.Elements.{All-nil, All-append}
use Rattle.ffc_lex.specs.declared.tokens.TokenKind.TheVariants as kinds
use Rattle.ffc_term.specs.declared.node.Node.{Node}
use Rattle.ffc_term.specs.declared.node.Sort.{Sort}
use Rattle.ffc_smt.specs.Trees.{Word, Tree, Leaf, Group, Trees, Empty, First, items_of, front, tokens_of, tokens_of_items}
use Rattle.ffc_smt.specs.FaultLaws.{IsAtOneOf}
use Rattle.ffc_smt.specs.Meaning.{Env}
use Rattle.ffc_smt.specs.Terms.{Parameter, Term}
use Rattle.ffc_smt.specs.Faults.{Fault, Read, Sound, Faulty, faults, faulty, read_map, both, behind, last, item}
use Rattle.ffc_smt.specs.Scopes.{State, scope_of}
use Rattle.ffc_smt.specs.TermReading.{Sorted, is_sort, term_read}
use Rattle.ffc_smt.specs.CommandReading.{limits, of_sort, term_of_sort}
use Rattle.ffc_smt.proofs.ConstantLemmas.{meant_constants_any}
use Rattle.ffc_smt.proofs.PlaceLemmas.{each_from}
use Rattle.ffc_smt.proofs.TermWalk.{reads_term}
use Rattle.ffc_smt.proofs.WalkLemmas.{EachToken, MayFail, each_front, one_fault}
use Rattle.ffc_words.specs.declared.faults.TakeStop.{TakeStop}
use Rattle.ffc_words.specs.declared.faults.TakeStop.TheVariants as stop
use Rattle.ffc_words.specs.Words.{IsTreeAt, AreItemsAt, word_at, fault_of}
use Rattle.ffc_words.specs.Outcomes.{outcome}
use Rattle.ffc_terms.specs.declared.scope.Symbols.{Symbols}
use Rattle.ffc_terms.specs.declared.terms.TermRead.{TermRead}
use Rattle.ffc_elab.specs.Reading.{AreInOrder, and_then, end_at}
use Rattle.ffc_elab.specs.SortedTerms.{IsTermOfSort, ReadsOfSort, IsReadTerm, ReadsAsTerm}
use Rattle.ffc_elab.proofs.ChangeLemmas.{sound_of}
use Rattle.ffc_elab.proofs.OutcomeLemmas.{outcome_map, FaultsThere, IsLeafRead, with_ok, word_at_items, end_outcome}
use Rattle.ffc_elab.proofs.PlainLemmas.{last_there}
use Rattle.ffc_elab.proofs.ItemLemmas.{tree_item, first_tree, after_first}

-- what is read of a tree has its faults at tokens of it
abbrev pub FaultsIn : {A : Type 0} → (Tree → Read A) → Type 1
FaultsIn read = (P : Fault → Type 0) (t : Tree) → EachToken (MayFail P) t → All P (faults (read t))

pub both_at : {A B : Type 0} (P : Fault → Type 0) (r : Read A) (q : Read B) → All P (faults r) → All P (faults q) → All P (faults (both r q))
both_at P (Sound a) (Sound b) h k = h
both_at P (Sound a) (Faulty f fs) h k = k
both_at P (Faulty f fs) q h k = All-append P (f ∷ fs) (faults q) h k

pub mapped_at : {A B : Type 0} (P : Fault → Type 0) (f : A → B) (r : Read A) → All P (faults r) → All P (faults (read_map f r))
mapped_at P f (Sound a) h = h
mapped_at P f (Faulty g gs) h = h

pub either_at : {A : Type 0} (P : Fault → Type 0) (b : Bool) (r q : Read A) → All P (faults r) → All P (faults q) → All P (faults (if b then r else q))
either_at P true r q h g = h
either_at P false r q h g = g

pub item_there : {A B : Type 0} (read : Tree → Read A) (next : Word → List Tree → Read B) → FaultsIn read → FaultsThere next → FaultsThere (λ closing ts. item closing read (next closing) ts)
item_there read next h g P closing [] m i = one_fault P 5 closing m
item_there read next h g P closing (t ∷ ts) m i = both_at P (read t) (next closing ts) (h P t i.0) (g P closing ts m i.1)

pub leaf_in : {A : Type 0} (read : Tree → Read A) → IsLeafRead read → FaultsIn read
leaf_in read leaf P (Leaf w) m = leaf.at P w m
leaf_in read leaf P (Group opening items closing) m = subst (λ r. All P (faults r)) (sym (leaf.group opening items closing)) (one_fault P 5 opening m.0)

pub sorted_in : (s : State) (parameters : List Parameter) (wanted : Sort) → FaultsIn (term_of_sort limits s parameters wanted)
sorted_in s parameters wanted P t m =
    by_read (term_read limits.height (scope_of s) locals t) (reads_term P (λ k u. Unit {0}) limits.height (scope_of s) (λ name x e. meant_constants_any (λ k u. Unit {0}) (λ k u. tt) x) t locals m).0
  where
    locals : Env Sort
    locals = map (λ p. (p.name, p.sort)) parameters

    by_read : (r : Read Sorted) → All P (faults r) → All P (faults (behind r (of_sort wanted (front t))))
    by_read (Sound x) h = either_at P (is_sort wanted x.sort) (Sound x.term) (faulty 10 (front t)) (All-nil P) (one_fault P 10 (front t) (each_front (MayFail P) t m))
    by_read (Faulty f fs) h = h

pub at_tokens : {A : Type 0} (read : Tree → Read A) → FaultsIn read → (t : Tree) → All (IsAtOneOf (tokens_of t)) (faults (read t))
at_tokens read h t = h (IsAtOneOf (tokens_of t)) t (each_from (MayFail (IsAtOneOf (tokens_of t))) t (λ w has code. record { word = w; among = has; line = refl; column = refl }))

-- a tree, and the end
pub tree_then_end : {A C : Type 0} (f : A × Unit {0} → C) (read : Tree → Read A) (t : Tree) (ts : Trees) (closing : Word) (rest : List Word) → FaultsIn read
    → AreInOrder (tokens_of_items (First t ts) ++ closing ∷ rest)
    → outcome (read_map f (item closing read last (items_of (First t ts)))) ≡ and_then (outcome (read t)) (λ a. and_then (outcome (last (items_of ts))) (λ u. Ok (f (a, u))))
tree_then_end {A} f read t ts closing rest there order =
    outcome_map f (item closing read last (items_of (First t ts)))
    ∙ ap (λ r. and_then r (λ p. Ok (f p))) (tree_item read (λ c us. last us) t ts closing rest (at_tokens read there t) last_there order)
    ∙ by_read (outcome (read t)) (outcome (last (items_of ts)))
  where
    by_read : (r : Result A Fault) (q : Result (Unit {0}) Fault) → and_then (and_then r (λ a. with_ok a q)) (λ p. Ok (f p)) ≡ and_then r (λ a. and_then q (λ u. Ok (f (a, u))))
    by_read (Ok a) (Ok u) = refl
    by_read (Ok a) (Err e) = refl
    by_read (Err e) q = refl

-- A term of a sort, and the end of its list. What reads it may be another reader that reads the same there.
module _ (nodes : List Node) (symbols : Symbols) (locals : Env Sort) (s : State) (parameters : List Parameter) (wanted : Sort) (words : List Word) (i : ℕ) (closing : Word) (rest : List Word) where
  abbrev Reader : Tree → Read Term
  Reader = term_of_sort limits s parameters wanted

  abbrev Whole : Trees → Read Term
  Whole items = read_map (λ p. p.0) (item closing Reader last (items_of items))

  abbrev Reads : Result TermRead TakeStop → Type 0
  Reads r = (t : Tree) (more : List Word) → IsTreeAt words i t more → ReadsOfSort nodes symbols locals wanted (Reader t) t i r

  then_end : (t : Tree) (ts : Trees) → AreItemsAt words i (First t ts) closing rest → AreInOrder (drop i words)
      → outcome (Whole (First t ts)) ≡ and_then (outcome (Reader t)) (λ a. and_then (outcome (last (items_of ts))) (λ u. Ok a))
  then_end t ts at order = tree_then_end (λ p. p.0) Reader t ts closing rest (sorted_in s parameters wanted) (subst AreInOrder at.text order)

  not_empty : (A : Type 0) → AreItemsAt words i Empty closing rest → ((word_at words i).kind ≡ kinds.RightParen → ⊥) → A
  not_empty A at n = absurd (n (ap (λ w. w.kind) (word_at_items words i Empty closing rest at) ∙ at.closed))

  pub last_stop : (items : Trees) (e : TakeStop) → AreItemsAt words i items closing rest → AreInOrder (drop i words) → ((word_at words i).kind ≡ kinds.RightParen → ⊥) → Reads (Err e)
      → ReadsAsTerm nodes symbols locals (Whole items) (Err e)
  last_stop items stop.Memory at order n reads = tt
  last_stop Empty (stop.Fault f) at order n reads = not_empty (outcome (Whole Empty) ≡ Err (fault_of f)) at n
  last_stop (First t ts) (stop.Fault f) at order n reads =
      then_end t ts at order ∙ ap (λ r. and_then r (λ a. and_then (outcome (last (items_of ts))) (λ u. Ok a))) (reads t (tokens_of_items ts ++ closing ∷ rest) (first_tree words i t ts closing rest at))

  -- the term and what follows it
  term_then_end : (t : Tree) (ts : Trees) (x : TermRead) (it : IsTermOfSort nodes symbols locals wanted (Reader t) t i x) → AreItemsAt words i (First t ts) closing rest → AreInOrder (drop i words)
      → outcome (Whole (First t ts)) ≡ and_then (end_at (word_at words x.next)) (λ u. Ok it.term)
  term_then_end t ts x it at order =
      then_end t ts at order
      ∙ ap (λ r. and_then (outcome r) (λ a. and_then (outcome (last (items_of ts))) (λ u. Ok a))) it.sound
      ∙ ap (λ r. and_then r (λ u. Ok it.term)) (end_outcome words (i + length (tokens_of t)) ts closing rest (after_first words i t ts closing rest at))
      ∙ ap (λ k. and_then (end_at (word_at words k)) (λ u. Ok it.term)) (sym it.next)

  pub last_surplus : (items : Trees) (x : TermRead) (f : Fault) → AreItemsAt words i items closing rest → AreInOrder (drop i words) → ((word_at words i).kind ≡ kinds.RightParen → ⊥) → Reads (Ok x)
      → end_at (word_at words x.next) ≡ Err f → outcome (Whole items) ≡ Err f
  last_surplus Empty x f at order n reads e = not_empty (outcome (Whole Empty) ≡ Err f) at n
  last_surplus (First t ts) x f at order n reads e =
      let it = reads t (tokens_of_items ts ++ closing ∷ rest) (first_tree words i t ts closing rest at) in
      term_then_end t ts x it at order ∙ ap (λ r. and_then r (λ u. Ok it.term)) e

  pub last_read : (items : Trees) (x : TermRead) → AreItemsAt words i items closing rest → AreInOrder (drop i words) → ((word_at words i).kind ≡ kinds.RightParen → ⊥) → Reads (Ok x)
      → end_at (word_at words x.next) ≡ Ok tt → IsReadTerm nodes symbols locals (Whole items) x
  last_read Empty x at order n reads e = not_empty (IsReadTerm nodes symbols locals (Whole Empty) x) at n
  last_read (First t ts) x at order n reads e =
      let it = reads t (tokens_of_items ts ++ closing ∷ rest) (first_tree words i t ts closing rest at) in
      record {
        term = it.term;
        sound = sound_of (Whole (First t ts)) it.term (term_then_end t ts x it at order ∙ ap (λ r. and_then r (λ u. Ok it.term)) e);
        code = it.code;
        height_is = it.height_is;
        weight_is = it.weight_is;
      }
