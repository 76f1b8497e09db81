-- Parameters, word by word.
use Rattle.std.proofs.Common.{◌≡◌, ℕ, zero, suc, ◌+◌, ◌-◌, ◌^◌, ◌<◌, ◌≤◌, min, false, List, [], ◌∷◌, ◌++◌, drop, length, is_some, Ok, Err, refl, sym, ap, ◌∙◌, subst, arith, append_assoc, append-nil, length-append}
use Rattle.ffc_lex.specs.declared.tokens.TokenKind.TheVariants as kinds
use Rattle.ffc_term.specs.declared.node.Sort.{Sort}
use Rattle.ffc_smt.specs.Trees.{Word, Tree, Leaf, Group, Trees, Empty, First, items_of, front, tokens_of, tokens_of_items}
use Rattle.ffc_smt.specs.TreeShapes.{IsProper, is_parenthesis}
use Rattle.ffc_smt.specs.Meaning.{Env, found}
use Rattle.ffc_smt.specs.Terms.{Name}
use Rattle.ffc_smt.specs.Faults.{Fault, word_fault, last}
use Rattle.ffc_smt.specs.TermReading.{sort_read}
use Rattle.ffc_smt.proofs.TermWalk.{reads_sort}
use Rattle.ffc_words.specs.Words.{IsTreeAt, AreItemsAt, word_at}
use Rattle.ffc_words.specs.Outcomes.{outcome}
use Rattle.ffc_terms.specs.SortSteps.{placed}
use Rattle.ffc_elab.specs.Reading.{AreInOrder, and_then, end_at}
use Rattle.ffc_elab.specs.Defining.{new_among, one_sort, parameter_after, IsClosedSort, IsParameterAfter}
use Rattle.ffc_elab.proofs.OutcomeLemmas.{drop_next, drop_plus, word_at_items, front_kind, end_outcome, items_front, first_word, words_after}
use Rattle.ffc_elab.proofs.NamingLemmas.{fresh_leaf}
use Rattle.ffc_elab.proofs.SortedTermLemmas.{front_at}
use Rattle.ffc_elab.proofs.ItemLemmas.{missing_item, placed_wrong, placed_right, first_tree, after_first, order_drop}
use Rattle.ffc_elab.proofs.TermItemLemmas.{FaultsIn, tree_then_end}
use Rattle.ffc_elab.proofs.AssertReading.{ended_kind, after_leaf}

-- Places

pub place_inside : (words : List Word) (i : ℕ) (w : Word) (ws : List Word) → drop i words ≡ w ∷ ws → i < length words
place_inside [] zero w ws e = cc
place_inside [] (suc i) w ws e = cc
place_inside (v ∷ vs) zero w ws e = omega arith
place_inside (v ∷ vs) (suc i) w ws e = let h = place_inside vs i w ws e in omega (arith, h)

pub items_inside : (words : List Word) (i : ℕ) (items : Trees) (closing : Word) (rest : List Word) → AreItemsAt words i items closing rest → i < length words
items_inside words i items closing rest at = place_inside words i (first_word items closing) (words_after items closing rest) (at.text ∙ items_front items closing rest)

one_long : (t : Tree) (closing : Word) → length (tokens_of_items (First t Empty) ++ closing ∷ []) ≡ length (tokens_of t) + 1
unfolding tokens_of
one_long t closing = omega (arith, ap (λ (ws : List Word). length (ws ++ closing ∷ [])) (append-nil (tokens_of t)), length-append (tokens_of t) (closing ∷ []))

one_word : (w : Word) → length (tokens_of (Leaf w)) ≡ 1
unfolding tokens_of
one_word w = refl

group_long : (o : Word) (x : Tree) (us : Trees) (c : Word) → length (tokens_of (Group o (First x us) c)) ≡ 1 + length (tokens_of x) + length (tokens_of_items us ++ c ∷ [])
unfolding tokens_of
group_long o x us c = omega (arith, length-append (tokens_of x ++ tokens_of_items us) (c ∷ []), length-append (tokens_of x) (tokens_of_items us), length-append (tokens_of_items us) (c ∷ []))

-- A sort with which a list ends

sorts_in : (sorts : Env Sort) → FaultsIn (sort_read sorts)
sorts_in sorts P t m = (reads_sort P sorts t m).0

module _ (sorts : Env Sort) (words : List Word) (i : ℕ) (closing : Word) (rest : List Word) where
  pub sort_missing : (items : Trees) → AreItemsAt words i items closing rest → (word_at words i).kind ≡ kinds.RightParen → one_sort sorts closing items ≡ Err (word_fault 5 (word_at words i))
  sort_missing items at e = missing_item (λ p. p.0) (sort_read sorts) last words i items closing rest at e

  sort_then : (t : Tree) (ts : Trees) → AreItemsAt words i (First t ts) closing rest → AreInOrder (drop i words)
      → one_sort sorts closing (First t ts) ≡ and_then (outcome (sort_read sorts t)) (λ s. and_then (outcome (last (items_of ts))) (λ u. Ok s))
  sort_then t ts at order = tree_then_end (λ p. p.0) (sort_read sorts) t ts closing rest (sorts_in sorts) (subst AreInOrder at.text order)

  some_item : (A : Type 0) → AreItemsAt words i Empty closing rest → ((word_at words i).kind ≡ kinds.RightParen → ⊥) → A
  some_item A at n = absurd (n (ap (λ w. w.kind) (word_at_items words i Empty closing rest at) ∙ at.closed))

  pub closed_wrong : (items : Trees) (f : Fault) → AreItemsAt words i items closing rest → AreInOrder (drop i words) → ((word_at words i).kind ≡ kinds.RightParen → ⊥)
      → ((t : Tree) (more : List Word) → IsTreeAt words i t more → Err f ≡ placed t i (outcome (sort_read sorts t))) → one_sort sorts closing items ≡ Err f
  closed_wrong Empty f at order n h = some_item (one_sort sorts closing Empty ≡ Err f) at n
  closed_wrong (First t ts) f at order n h =
      sort_then t ts at order
      ∙ ap (λ r. and_then r (λ s. and_then (outcome (last (items_of ts))) (λ u. Ok s))) (placed_wrong t i (outcome (sort_read sorts t)) f (h t (tokens_of_items ts ++ closing ∷ rest) (first_tree words i t ts closing rest at)))

  module _ (s : Sort) (j : ℕ) where
    abbrev Placed : Type 0
    Placed = (t : Tree) (more : List Word) → IsTreeAt words i t more → Ok (s, j) ≡ placed t i (outcome (sort_read sorts t))

    sort_then_word : (t : Tree) (ts : Trees) → AreItemsAt words i (First t ts) closing rest → AreInOrder (drop i words) → (j ≡ i + length (tokens_of t)) → outcome (sort_read sorts t) ≡ Ok s
        → one_sort sorts closing (First t ts) ≡ and_then (end_at (word_at words j)) (λ u. Ok s)
    sort_then_word t ts at order place is =
        sort_then t ts at order
        ∙ ap (λ r. and_then r (λ v. and_then (outcome (last (items_of ts))) (λ u. Ok v))) is
        ∙ ap (λ r. and_then r (λ u. Ok s)) (end_outcome words (i + length (tokens_of t)) ts closing rest (after_first words i t ts closing rest at))
        ∙ ap (λ k. and_then (end_at (word_at words k)) (λ u. Ok s)) (sym place)

    pub closed_surplus : (items : Trees) (f : Fault) → AreItemsAt words i items closing rest → AreInOrder (drop i words) → ((word_at words i).kind ≡ kinds.RightParen → ⊥) → Placed
        → end_at (word_at words j) ≡ Err f → one_sort sorts closing items ≡ Err f
    closed_surplus Empty f at order n h e = some_item (one_sort sorts closing Empty ≡ Err f) at n
    closed_surplus (First t ts) f at order n h e =
        let is = placed_right t i j (outcome (sort_read sorts t)) s (h t (tokens_of_items ts ++ closing ∷ rest) (first_tree words i t ts closing rest at)) in
        sort_then_word t ts at order is.1 is.0 ∙ ap (λ r. and_then r (λ u. Ok s)) e

    pub closed_read : (items : Trees) (next : ℕ) → AreItemsAt words i items closing rest → AreInOrder (drop i words) → ((word_at words i).kind ≡ kinds.RightParen → ⊥) → Placed
        → end_at (word_at words j) ≡ Ok tt → length words ≤ 2 ^ 64 - 1 → next ≡ min (j + 1) (2 ^ 64 - 1) → IsClosedSort sorts items closing i s next
    closed_read Empty next at order n h e few is_next = some_item (IsClosedSort sorts Empty closing i s next) at n
    closed_read (First t (First u us)) next at order n h e few is_next =
        let is = placed_right t i j (outcome (sort_read sorts t)) s (h t (tokens_of_items (First u us) ++ closing ∷ rest) (first_tree words i t (First u us) closing rest at)) in
        let later = after_first words i t (First u us) closing rest at in
        absurd (front_kind u later.proper.0 (ap (λ w. w.kind) (sym (word_at_items words (i + length (tokens_of t)) (First u us) closing rest later)) ∙ ap (λ k. (word_at words k).kind) (sym is.1)
        ∙ ended_kind (word_at words j).kind (word_at words j) tt e))
    closed_read (First t Empty) next at order n h e few is_next =
        let is = placed_right t i j (outcome (sort_read sorts t)) s (h t (tokens_of_items Empty ++ closing ∷ rest) (first_tree words i t Empty closing rest at)) in
        let later = after_first words i t Empty closing rest at in
        let inside = items_inside words (i + length (tokens_of t)) Empty closing rest later in
        let place = is.1 in
        record {
          reads = sort_then_word t Empty at order is.1 is.0 ∙ ap (λ r. and_then r (λ u. Ok s)) e;
          next_is = let long = one_long t closing in omega (arith, few, inside, place, is_next, long);
        }

-- A parameter

new_front : (names : Env Sort) (x : Tree) → IsProper x → outcome (new_among names (Leaf (front x))) ≡ outcome (new_among names x)
new_front names (Leaf w) p = refl
new_front names (Group o items c) p = ap outcome ((fresh_leaf (λ name. is_some (found names name))).paren o (ap is_parenthesis p.0))

module _ (sorts names : Env Sort) (words : List Word) (i : ℕ) (few : length words ≤ 2 ^ 64 - 1) where
  pub parameter_shapeless : (t : Tree) (rest : List Word) → IsTreeAt words i t rest → ((word_at words i).kind ≡ kinds.LeftParen → ⊥) → parameter_after sorts names t ≡ Err (word_fault 5 (word_at words i))
  parameter_shapeless (Leaf w) rest at n = ap (λ v. Err (word_fault 5 v)) (sym (front_at words i (Leaf w) rest at))
  parameter_shapeless (Group o items c) rest at n = absurd (n (ap (λ v. v.kind) (front_at words i (Group o items c) rest at) ∙ at.proper.0))

  -- inside the parentheses
  pub inside_of : (o c : Word) (items : Trees) (rest : List Word) → IsTreeAt words i (Group o items c) rest → AreItemsAt words (suc i) items c rest
  unfolding tokens_of
  inside_of o c items rest at = record {
    text = drop_next words i o (tokens_of_items items ++ c ∷ rest) (at.text ∙ ap (λ ws. o ∷ ws) (append_assoc (tokens_of_items items) (c ∷ []) rest));
    proper = at.proper.1;
    closed = at.proper.2;
  }

  module _ (m : ℕ) (one : m ≡ min (i + 1) (2 ^ 64 - 1)) (opens : (word_at words i).kind ≡ kinds.LeftParen) where
    leaf_opens : (A : Type 0) (w : Word) (rest : List Word) → IsTreeAt words i (Leaf w) rest → A
    leaf_opens A w rest at = let q : is_parenthesis kinds.LeftParen ≡ false = ap is_parenthesis (sym opens ∙ ap (λ v. v.kind) (front_at words i (Leaf w) rest at)) ∙ at.proper in cc

    first_place : (o c : Word) (items : Trees) (rest : List Word) → IsTreeAt words i (Group o items c) rest → m ≡ suc i
    first_place o c items rest at = let inside = items_inside words (suc i) items c rest (inside_of o c items rest at) in omega (arith, few, inside, one)

    pub parameter_unnamed : (t : Tree) (rest : List Word) (f : Fault) → IsTreeAt words i t rest → Err f ≡ outcome (new_among names (Leaf (word_at words m))) → parameter_after sorts names t ≡ Err f
    parameter_unnamed (Leaf w) rest f at e = leaf_opens (parameter_after sorts names (Leaf w) ≡ Err f) w rest at
    parameter_unnamed (Group o Empty c) rest f at e =
        let inner = inside_of o c Empty rest at in
        let is = ap (word_at words) (first_place o c Empty rest at) ∙ word_at_items words (suc i) Empty c rest inner in
        let none = e ∙ ap (λ w. outcome (new_among names (Leaf w))) is ∙ ap outcome ((fresh_leaf (λ name. is_some (found names name))).paren c (ap is_parenthesis at.proper.2)) in
        let same : f ≡ word_fault 5 c = cc in
        ap Err (sym same)
    parameter_unnamed (Group o (First x us) c) rest f at e =
        let inner = inside_of o c (First x us) rest at in
        let is = ap (word_at words) (first_place o c (First x us) rest at) ∙ word_at_items words (suc i) (First x us) c rest inner in
        ap (λ r. and_then r (λ name. and_then (one_sort sorts c us) (λ sort. Ok (name, sort)))) (sym (e ∙ ap (λ w. outcome (new_among names (Leaf w))) is ∙ new_front names x inner.proper.0))

    module _ (n : ℕ) (two : n ≡ min (i + 2) (2 ^ 64 - 1)) where
      -- a name, and what follows it
      pub record IsNamed (t : Tree) (rest : List Word) (name : Name) : Type 0 where
        pub opening : Word
        pub variable : Tree
        pub others : Trees
        pub close : Word
        pub shape : t ≡ Group opening (First variable others) close
        pub named : outcome (new_among names variable) ≡ Ok name
        pub later : AreItemsAt words n others close rest
        pub place : n ≡ i + 2
        pub short : length (tokens_of variable) ≡ 1
        pub order : AreInOrder (drop n words)

      pub parameter_named : (t : Tree) (rest : List Word) (name : Name) → IsTreeAt words i t rest → AreInOrder (drop i words) → Ok name ≡ outcome (new_among names (Leaf (word_at words m))) → IsNamed t rest name
      parameter_named (Leaf w) rest name at order e = leaf_opens (IsNamed (Leaf w) rest name) w rest at
      parameter_named (Group o Empty c) rest name at order e =
          let inner = inside_of o c Empty rest at in
          let is = ap (word_at words) (first_place o c Empty rest at) ∙ word_at_items words (suc i) Empty c rest inner in
          let none = e ∙ ap (λ w. outcome (new_among names (Leaf w))) is ∙ ap outcome ((fresh_leaf (λ name. is_some (found names name))).paren c (ap is_parenthesis at.proper.2)) in
          cc
      parameter_named (Group o (First (Group q is d) us) c) rest name at order e =
          let inner = inside_of o c (First (Group q is d) us) rest at in
          let here = ap (word_at words) (first_place o c (First (Group q is d) us) rest at) ∙ word_at_items words (suc i) (First (Group q is d) us) c rest inner in
          let none = e ∙ ap (λ w. outcome (new_among names (Leaf w))) here ∙ new_front names (Group q is d) inner.proper.0 in
          cc
      parameter_named (Group o (First (Leaf w) us) c) rest name at order e =
          let inner = inside_of o c (First (Leaf w) us) rest at in
          let here = ap (word_at words) (first_place o c (First (Leaf w) us) rest at) ∙ word_at_items words (suc i) (First (Leaf w) us) c rest inner in
          let later = after_leaf words (suc i) w c us rest inner in
          let inside = items_inside words (suc (suc i)) us c rest later in
          let place : n ≡ suc (suc i) = omega (arith, few, inside, two) in
          let two_more : n ≡ i + 2 = omega (arith, place) in
          record {
            opening = o;
            variable = Leaf w;
            others = us;
            close = c;
            shape = refl;
            named = sym (e ∙ ap (λ v. outcome (new_among names (Leaf v))) here);
            later = subst (λ k. AreItemsAt words k us c rest) (sym place) later;
            place = two_more;
            short = one_word w;
            order = subst (λ k. AreInOrder (drop k words)) (sym two_more) (subst AreInOrder (sym (drop_plus 2 i words)) (order_drop 2 (drop i words) order));
          }

      pub parameter_unsorted : (t : Tree) (rest : List Word) (name : Name) (f : Fault) → (h : IsNamed t rest name) → one_sort sorts h.close h.others ≡ Err f → parameter_after sorts names t ≡ Err f
      parameter_unsorted t rest name f h e =
          ap (parameter_after sorts names) h.shape
          ∙ ap (λ r. and_then r (λ v. and_then (one_sort sorts h.close h.others) (λ sort. Ok (v, sort)))) h.named
          ∙ ap (λ r. and_then r (λ sort. Ok (name, sort))) e

      pub parameter_read_here : (t : Tree) (rest : List Word) (name : Name) (sort : Sort) (next : ℕ) → (h : IsNamed t rest name) → IsClosedSort sorts h.others h.close n sort next → IsParameterAfter sorts names t i name sort next
      parameter_read_here t rest name sort next h it = record {
        reads = ap (parameter_after sorts names) h.shape
            ∙ ap (λ r. and_then r (λ v. and_then (one_sort sorts h.close h.others) (λ u. Ok (v, u)))) h.named
            ∙ ap (λ r. and_then r (λ u. Ok (name, u))) it.reads;
        next_is = let long = ap (λ v. length (tokens_of v)) h.shape in let whole = group_long h.opening h.variable h.others h.close in let e = it.next_is in let place = h.place in let short = h.short in omega (arith, long, whole, e, place, short);
      }
