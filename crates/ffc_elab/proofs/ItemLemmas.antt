-- Items that are whole trees, and then others.
use Rattle.std.proofs.Common.{◌≡◌, ℕ, zero, suc, ◌+◌, ⊎_elim, false, List, [], ◌∷◌, ◌++◌, All, Contains, drop, length, Result, Ok, Err, refl, sym, ap, ◌∙◌, subst, arith, append_assoc}
use Rattle.std.proofs.lemmas.List.Elements.{All-nil, All-append, All-weaker}
use Rattle.ffc_lex.specs.declared.tokens.TokenKind.TheVariants as kinds
use Rattle.ffc_term.specs.declared.node.Sort.{Sort}
use Rattle.ffc_smt.specs.Trees.{Word, Tree, Leaf, Group, Trees, Empty, First, items_of, front, tokens_of, tokens_of_items}
use Rattle.ffc_smt.specs.TreeShapes.{is_parenthesis}
use Rattle.ffc_smt.specs.FaultLaws.{IsWordBefore, IsAtOneOf, IsFaultBefore, AreAllBefore}
use Rattle.ffc_smt.specs.Meaning.{Env}
use Rattle.ffc_smt.specs.Faults.{Fault, word_fault, Read, Sound, Faulty, faults, read_map, both, last, item}
use Rattle.ffc_smt.specs.TermReading.{sort_read}
use Rattle.ffc_smt.specs.CommandReading.{nothing_in, none_read}
use Rattle.ffc_smt.proofs.DeclaredLemmas.{in_front}
use Rattle.ffc_smt.proofs.PlaceLemmas.{sort_faults, each_from}
use Rattle.ffc_smt.proofs.TermWalk.{reads_sort}
use Rattle.ffc_smt.proofs.WalkLemmas.{EachToken, EachTokens, MayFail, each_front, one_fault}
use Rattle.ffc_words.specs.Words.{IsTreeAt, AreItemsAt, word_at}
use Rattle.ffc_words.specs.Outcomes.{outcome}
use Rattle.ffc_terms.specs.SortSteps.{placed}
use Rattle.ffc_elab.specs.Reading.{AreInOrder, and_then, later_items, end_at}
use Rattle.ffc_elab.proofs.OutcomeLemmas.{outcome_map, drop_next, FaultsThere, IsAfterWord, all_right, outcome_both, with_ok, word_at_items, front_kind, faults_after, spelled_first, drop_plus, after_tree, end_outcome}
use Rattle.ffc_elab.proofs.PlainLemmas.{last_there}

-- Order

pub order_across : (xs ys : List Word) (v : Word) → AreInOrder (xs ++ ys) → Contains xs v → All (IsWordBefore v) ys
order_across [] ys v h has = absurd (omega (arith, has.1))
order_across (x ∷ xs) ys v h has =
    ⊎_elim (λ e. subst (λ w. All (IsWordBefore w) ys) (sym e) (all_right (IsWordBefore x) xs ys h.0)) (λ later. order_across xs ys v h.1 later) (in_front x xs v has)

pub one_before : (words : List Word) (fs gs : List Fault) → All (IsAtOneOf words) fs → ((v : Word) → Contains words v → All (IsAfterWord v) gs) → AreAllBefore fs gs
one_before words fs gs h after = All-weaker (IsAtOneOf words) (λ f. All (IsFaultBefore f) gs) (λ f e. at_word f e) fs h
  where
    at_word : (f : Fault) → IsAtOneOf words f → All (IsFaultBefore f) gs
    at_word f e =
        All-weaker (IsAfterWord e.word) (IsFaultBefore f) (λ g a.
        subst (λ line. Rattle.ffc_lex.specs.Order.IsPlaceBefore line f.column g.line g.column) (sym e.line)
        (subst (λ column. Rattle.ffc_lex.specs.Order.IsPlaceBefore e.word.line column g.line g.column) (sym e.column) a)) gs (after e.word e.among)

-- an item that is a tree, and then others
pub tree_item : {A B : Type 0} (read : Tree → Read A) (next : Word → List Tree → Read B) (t : Tree) (ts : Trees) (closing : Word) (rest : List Word)
    → All (IsAtOneOf (tokens_of t)) (faults (read t)) → FaultsThere next → AreInOrder (tokens_of_items (First t ts) ++ closing ∷ rest)
    → outcome (item closing read (next closing) (items_of (First t ts))) ≡ and_then (outcome (read t)) (λ a. with_ok a (outcome (next closing (items_of ts))))
unfolding items_of
tree_item read next t ts closing rest at there order =
    let q = next closing (items_of ts) in
    let whole = subst AreInOrder (spelled_first t ts closing rest) order in
    outcome_both (read t) q (one_before (tokens_of t) (faults (read t)) (faults q) at (λ v has. faults_after next v ts closing rest there (order_across (tokens_of t) (tokens_of_items ts ++ closing ∷ rest) v whole has)))

-- the tree at a place, and the items after it
pub first_tree : (words : List Word) (i : ℕ) (t : Tree) (ts : Trees) (closing : Word) (rest : List Word) → AreItemsAt words i (First t ts) closing rest → IsTreeAt words i t (tokens_of_items ts ++ closing ∷ rest)
first_tree words i t ts closing rest at = record { text = at.text ∙ spelled_first t ts closing rest; proper = at.proper.0 }

pub after_first : (words : List Word) (i : ℕ) (t : Tree) (ts : Trees) (closing : Word) (rest : List Word) → AreItemsAt words i (First t ts) closing rest → AreItemsAt words (i + length (tokens_of t)) ts closing rest
after_first words i t ts closing rest at = record {
  text = drop_plus (length (tokens_of t)) i words ∙ ap (drop (length (tokens_of t))) (at.text ∙ spelled_first t ts closing rest) ∙ after_tree t (tokens_of_items ts ++ closing ∷ rest);
  proper = at.proper.1;
  closed = at.closed;
}

-- A sort, and the end

pub missing_item : {A B C : Type 0} (f : A × B → C) (read : Tree → Read A) (next : List Tree → Read B) (words : List Word) (i : ℕ) (items : Trees) (closing : Word) (rest : List Word)
    → AreItemsAt words i items closing rest → (word_at words i).kind ≡ kinds.RightParen → outcome (read_map f (item closing read next (items_of items))) ≡ Err (word_fault 5 (word_at words i))
unfolding items_of
missing_item f read next words i Empty closing rest at e = ap (λ w. Err (word_fault 5 w)) (sym (word_at_items words i Empty closing rest at))
missing_item f read next words i (First t ts) closing rest at e = absurd (front_kind t at.proper.0 (ap (λ w. w.kind) (sym (word_at_items words i (First t ts) closing rest at)) ∙ e))

pub placed_wrong : (t : Tree) (i : ℕ) (r : Result Sort Fault) (f : Fault) → Err f ≡ placed t i r → r ≡ Err f
placed_wrong t i (Ok s) f e = cc
placed_wrong t i (Err g) f e = cc

pub placed_right : (t : Tree) (i j : ℕ) (r : Result Sort Fault) (s : Sort) → Ok (s, j) ≡ placed t i r → (r ≡ Ok s) × (j ≡ i + length (tokens_of t))
placed_right t i j (Ok u) s e =
    (ap Ok (sym (ap (λ r. elim r as (λ x. Sort) [ Ok p ↦ p.0 | Err g ↦ s ]) e)), ap (λ r. elim r as (λ x. ℕ) [ Ok p ↦ p.1 | Err g ↦ j ]) e)
placed_right t i j (Err g) s e = cc

module _ {C : Type 0} (g : Sort × Unit {0} → C) (sorts : Env Sort) (words : List Word) (i : ℕ) (closing : Word) where
  sort_then_end : (t : Tree) (ts : Trees) → AreItemsAt words i (First t ts) closing [] → AreInOrder (drop i words)
      → outcome (read_map g (item closing (sort_read sorts) last (items_of (First t ts)))) ≡ and_then (outcome (sort_read sorts t)) (λ s. and_then (outcome (last (items_of ts))) (λ u. Ok (g (s, u))))
  sort_then_end t ts at order =
      outcome_map g (item closing (sort_read sorts) last (items_of (First t ts)))
      ∙ ap (λ r. and_then r (λ p. Ok (g p))) (tree_item (sort_read sorts) (λ c us. last us) t ts closing [] (sort_faults sorts t) last_there (subst AreInOrder at.text order))
      ∙ by_sort (outcome (sort_read sorts t)) (outcome (last (items_of ts)))
    where
      by_sort : (r : Result Sort Fault) (q : Result (Unit {0}) Fault) → and_then (and_then r (λ a. with_ok a q)) (λ p. Ok (g p)) ≡ and_then r (λ s. and_then q (λ u. Ok (g (s, u))))
      by_sort (Ok s) (Ok u) = refl
      by_sort (Ok s) (Err e) = refl
      by_sort (Err e) q = refl

  pub sort_wrong : (items : Trees) (f : Fault) → AreItemsAt words i items closing [] → AreInOrder (drop i words) → ((word_at words i).kind ≡ kinds.RightParen → ⊥)
      → ((t : Tree) (more : List Word) → IsTreeAt words i t more → Err f ≡ placed t i (outcome (sort_read sorts t))) → outcome (read_map g (item closing (sort_read sorts) last (items_of items))) ≡ Err f
  sort_wrong Empty f at order n h = absurd (n (ap (λ w. w.kind) (word_at_items words i Empty closing [] at) ∙ at.closed))
  sort_wrong (First t ts) f at order n h =
      sort_then_end t ts at order
      ∙ ap (λ r. and_then r (λ s. and_then (outcome (last (items_of ts))) (λ u. Ok (g (s, u))))) (placed_wrong t i (outcome (sort_read sorts t)) f (h t (tokens_of_items ts ++ closing ∷ []) (first_tree words i t ts closing [] at)))

  pub sort_right : (items : Trees) (s : Sort) (j : ℕ) → AreItemsAt words i items closing [] → AreInOrder (drop i words) → ((word_at words i).kind ≡ kinds.RightParen → ⊥)
      → ((t : Tree) (more : List Word) → IsTreeAt words i t more → Ok (s, j) ≡ placed t i (outcome (sort_read sorts t)))
      → outcome (read_map g (item closing (sort_read sorts) last (items_of items))) ≡ and_then (end_at (word_at words j)) (λ u. Ok (g (s, u)))
  sort_right Empty s j at order n h = absurd (n (ap (λ w. w.kind) (word_at_items words i Empty closing [] at) ∙ at.closed))
  sort_right (First t ts) s j at order n h =
      let is = placed_right t i j (outcome (sort_read sorts t)) s (h t (tokens_of_items ts ++ closing ∷ []) (first_tree words i t ts closing [] at)) in
      sort_then_end t ts at order
      ∙ ap (λ r. and_then r (λ s. and_then (outcome (last (items_of ts))) (λ u. Ok (g (s, u))))) is.0
      ∙ ap (λ r. and_then r (λ u. Ok (g (s, u)))) (end_outcome words (i + length (tokens_of t)) ts closing [] (after_first words i t ts closing [] at))
      ∙ ap (λ k. and_then (end_at (word_at words k)) (λ u. Ok (g (s, u)))) (sym is.1)

-- `()`, and then others

pub empty_spelled : (c : Word) (ws : List Word) → tokens_of_items Empty ++ c ∷ ws ≡ c ∷ ws
unfolding tokens_of
empty_spelled c ws = refl

nothing_at : (P : Fault → Type 0) (ts : Trees) → EachTokens (MayFail P) ts → All P (faults (nothing_in (items_of ts)))
unfolding items_of
nothing_at P Empty m = All-nil P
nothing_at P (First t ts) m = one_fault P 5 (front t) (each_front (MayFail P) t m.0)

none_reads_at : (P : Fault → Type 0) (t : Tree) → EachToken (MayFail P) t → All P (faults (none_read t))
none_reads_at P (Leaf w) m = one_fault P 5 w m
none_reads_at P (Group opening items closing) m = nothing_at P items m.1

none_faults : (t : Tree) → All (IsAtOneOf (tokens_of t)) (faults (none_read t))
none_faults t = none_reads_at (IsAtOneOf (tokens_of t)) t (each_from (MayFail (IsAtOneOf (tokens_of t))) t (λ w has code. record { word = w; among = has; line = refl; column = refl }))

module _ {B C : Type 0} (g : Unit {0} × B → C) (next : Word → List Tree → Read B) (words : List Word) (i : ℕ) (closing : Word) (there : FaultsThere next) where
  abbrev Whole : Trees → Result C Fault
  Whole items = outcome (read_map g (item closing none_read (next closing) (items_of items)))

  none_then : (t : Tree) (ts : Trees) → AreItemsAt words i (First t ts) closing [] → AreInOrder (drop i words)
      → Whole (First t ts) ≡ and_then (outcome (none_read t)) (λ u. and_then (outcome (next closing (items_of ts))) (λ b. Ok (g (u, b))))
  none_then t ts at order =
      outcome_map g (item closing none_read (next closing) (items_of (First t ts)))
      ∙ ap (λ r. and_then r (λ p. Ok (g p))) (tree_item none_read next t ts closing [] (none_faults t) there (subst AreInOrder at.text order))
      ∙ by_unit (outcome (none_read t)) (outcome (next closing (items_of ts)))
    where
      by_unit : (r : Result (Unit {0}) Fault) (q : Result B Fault) → and_then (and_then r (λ a. with_ok a q)) (λ p. Ok (g p)) ≡ and_then r (λ u. and_then q (λ b. Ok (g (u, b))))
      by_unit (Ok u) (Ok b) = refl
      by_unit (Ok u) (Err e) = refl
      by_unit (Err e) q = refl

  -- no parenthesis opens here
  pub none_missing : (items : Trees) → AreItemsAt words i items closing [] → AreInOrder (drop i words) → ((word_at words i).kind ≡ kinds.LeftParen → ⊥) → Whole items ≡ Err (word_fault 5 (word_at words i))
  unfolding items_of
  none_missing Empty at order n = ap (λ w. Err (word_fault 5 w)) (sym (word_at_items words i Empty closing [] at))
  none_missing (First (Leaf w) ts) at order n = none_then (Leaf w) ts at order ∙ ap (λ v. Err (word_fault 5 v)) (sym (word_at_items words i (First (Leaf w) ts) closing [] at))
  none_missing (First (Group o is c) ts) at order n = absurd (n (ap (λ w. w.kind) (word_at_items words i (First (Group o is c) ts) closing [] at) ∙ at.proper.0.0))

  inner_at : (o c : Word) (is ts : Trees) → AreItemsAt words i (First (Group o is c) ts) closing [] → AreItemsAt words (suc i) is c (tokens_of_items ts ++ closing ∷ [])
  unfolding tokens_of
  inner_at o c is ts at = record {
    text = drop_next words i o (tokens_of_items is ++ c ∷ (tokens_of_items ts ++ closing ∷ []))
        (at.text ∙ spelled_first (Group o is c) ts closing [] ∙ ap (λ ws. o ∷ ws) (append_assoc (tokens_of_items is) (c ∷ []) (tokens_of_items ts ++ closing ∷ [])));
    proper = at.proper.0.1;
    closed = at.proper.0.2;
  }

  -- something is in the parentheses
  pub none_filled : (items : Trees) → AreItemsAt words i items closing [] → AreInOrder (drop i words) → (word_at words i).kind ≡ kinds.LeftParen → ((word_at words (suc i)).kind ≡ kinds.RightParen → ⊥)
      → Whole items ≡ Err (word_fault 5 (word_at words (suc i)))
  unfolding items_of
  none_filled Empty at order e n = let q : kinds.RightParen ≡ kinds.LeftParen = sym at.closed ∙ ap (λ w. w.kind) (sym (word_at_items words i Empty closing [] at)) ∙ e in cc
  none_filled (First (Leaf w) ts) at order e n =
      let q : is_parenthesis kinds.LeftParen ≡ false = ap is_parenthesis (sym e) ∙ ap (λ v. is_parenthesis v.kind) (word_at_items words i (First (Leaf w) ts) closing [] at) ∙ at.proper.0 in cc
  none_filled (First (Group o Empty c) ts) at order e n =
      let inner = inner_at o c Empty ts at in
      absurd (n (ap (λ w. w.kind) (word_at_items words (suc i) Empty c (tokens_of_items ts ++ closing ∷ []) inner) ∙ inner.closed))
  none_filled (First (Group o (First u us) c) ts) at order e n =
      none_then (Group o (First u us) c) ts at order
      ∙ ap (λ v. Err (word_fault 5 v)) (sym (word_at_items words (suc i) (First u us) c (tokens_of_items ts ++ closing ∷ []) (inner_at o c (First u us) ts at)))

  -- nothing does, and the others are read
  pub none_passed : (items : Trees) → AreItemsAt words i items closing [] → AreInOrder (drop i words) → (word_at words i).kind ≡ kinds.LeftParen → (word_at words (suc i)).kind ≡ kinds.RightParen
      → AreItemsAt words (suc (suc i)) (later_items items) closing [] × (Whole items ≡ and_then (outcome (next closing (items_of (later_items items)))) (λ b. Ok (g (tt, b))))
  unfolding items_of
  none_passed Empty at order e n = let q : kinds.RightParen ≡ kinds.LeftParen = sym at.closed ∙ ap (λ w. w.kind) (sym (word_at_items words i Empty closing [] at)) ∙ e in cc
  none_passed (First (Leaf w) ts) at order e n =
      let q : is_parenthesis kinds.LeftParen ≡ false = ap is_parenthesis (sym e) ∙ ap (λ v. is_parenthesis v.kind) (word_at_items words i (First (Leaf w) ts) closing [] at) ∙ at.proper.0 in cc
  none_passed (First (Group o Empty c) ts) at order e n =
      let inner = inner_at o c Empty ts at in
      (record { text = drop_next words (suc i) c (tokens_of_items ts ++ closing ∷ []) (inner.text ∙ empty_spelled c (tokens_of_items ts ++ closing ∷ [])); proper = at.proper.1; closed = at.closed }, none_then (Group o Empty c) ts at order)
  none_passed (First (Group o (First u us) c) ts) at order e n =
      let inner = inner_at o c (First u us) ts at in
      absurd (front_kind u inner.proper.0 (ap (λ w. w.kind) (sym (word_at_items words (suc i) (First u us) c (tokens_of_items ts ++ closing ∷ []) inner)) ∙ n))

-- the faults of a sort and of the end
pub sorts_there : (sorts : Env Sort) → FaultsThere (λ closing ts. item closing (sort_read sorts) last ts)
sorts_there sorts P closing [] m i = one_fault P 5 closing m
sorts_there sorts P closing (t ∷ ts) m i = both_at (sort_read sorts t) (last ts) (reads_sort P sorts t i.0).0 (last_there P closing ts m i.1)
  where
    both_at : {A B : Type 0} (r : Read A) (q : Read B) → All P (faults r) → All P (faults q) → All P (faults (both r q))
    both_at (Sound a) (Sound b) h k = h
    both_at (Sound a) (Faulty f fs) h k = k
    both_at (Faulty f fs) q h k = All-append P (f ∷ fs) (faults q) h k

pub order_drop : (n : ℕ) (ws : List Word) → AreInOrder ws → AreInOrder (drop n ws)
order_drop zero ws h = h
order_drop (suc n) [] h = h
order_drop (suc n) (w ∷ ws) h = order_drop n ws h.1

-- and those of `()` before it
pub constants_there : (sorts : Env Sort) → FaultsThere (λ closing ts. item closing none_read (item closing (sort_read sorts) last) ts)
constants_there sorts P closing [] m i = one_fault P 5 closing m
constants_there sorts P closing (t ∷ ts) m i = both_at (none_read t) (item closing (sort_read sorts) last ts) (none_reads_at P t i.0) (sorts_there sorts P closing ts m i.1)
  where
    both_at : {A B : Type 0} (r : Read A) (q : Read B) → All P (faults r) → All P (faults q) → All P (faults (both r q))
    both_at (Sound a) (Sound b) h k = h
    both_at (Sound a) (Faulty f fs) h k = k
    both_at (Faulty f fs) q h k = All-append P (f ∷ fs) (faults q) h k
