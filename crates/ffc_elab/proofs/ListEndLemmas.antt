-- A list of terms that are asked for, in parentheses, and the end of its form.
use Rattle.std.proofs.Common.{◌≡◌, ◌⊎◌, inl, inr, ⊎_elim, ℕ, suc, ◌+◌, ◌≤◌, Bool, true, false, List, [], ◌∷◌, ◌++◌, length, drop, Result, Ok, Err, refl, sym, ap, ◌∙◌, subst, arith, length-drop}
use Rattle.ffc_lex.specs.declared.tokens.TokenKind.TheVariants as kinds
use Rattle.ffc_term.specs.declared.node.Node.{Node}
use Rattle.ffc_smt.specs.Trees.{Word, Tree, Leaf, Group, Trees, Empty, First, items_of, tokens_of, tokens_of_items}
use Rattle.ffc_smt.specs.TreeShapes.{is_parenthesis}
use Rattle.ffc_smt.specs.Terms.{Asked}
use Rattle.ffc_smt.specs.Faults.{Fault, word_fault, Read, last}
use Rattle.ffc_smt.specs.Scopes.{State}
use Rattle.ffc_smt.specs.CommandReading.{each, list_read}
use Rattle.ffc_words.specs.declared.faults.TakeStop.{TakeStop}
use Rattle.ffc_words.specs.declared.faults.TakeStop.TheVariants as stop
use Rattle.ffc_words.specs.Outcomes.{outcome}
use Rattle.ffc_words.specs.Words.{AreItemsAt, word_at}
use Rattle.ffc_terms.specs.declared.scope.Symbols.{Symbols}
use Rattle.ffc_elab.specs.declared.asked_lists.Listed.{Listed}
use Rattle.ffc_elab.specs.declared.asked_lists.AskedList.{AskedList}
use Rattle.ffc_elab.specs.Reading.{AreInOrder, and_then, end_at}
use Rattle.ffc_elab.specs.AskedLists.{listed_read, may_be_empty, IsMissing, AreRead, ReadsItems, list_alone, IsListRead, ReadsList}
use Rattle.ffc_elab.proofs.OutcomeLemmas.{with_ok, word_at_items, front_kind, drop_next, next_order, end_outcome}
use Rattle.ffc_elab.proofs.ItemLemmas.{tree_item, first_tree}
use Rattle.ffc_elab.proofs.PlainLemmas.{last_there}
use Rattle.ffc_elab.proofs.AskedLemmas.{inside}
use Rattle.ffc_elab.proofs.AskedFaultLemmas.{listed_inside, list_inside, inside_tokens}

-- an empty list where there has to be a term
empty_outcome : {A : Type 0} (b : Bool) (read : Tree → Read A) (opening c : Word) → b ≡ false → outcome (list_read b read (Group opening Empty c)) ≡ Err (word_fault 5 c)
unfolding items_of
empty_outcome true read opening c e = cc
empty_outcome false read opening c e = refl

-- a list that may be as it is
filled_outcome : {A : Type 0} (b : Bool) (read : Tree → Read A) (opening c : Word) (inner : Trees) → (b ≡ true) ⊎ (inner ≡ Empty → ⊥) → outcome (list_read b read (Group opening inner c)) ≡ outcome (each read (items_of inner))
unfolding items_of
filled_outcome true read opening c inner h = refl
filled_outcome false read opening c Empty h = ⊎_elim (λ e. cc) (λ n. absurd (n refl)) h
filled_outcome false read opening c (First t ts) h = refl

-- the words of a list and the end
module _ (which : Listed) (s : State) (words : List Word) (closing : Word) where
  abbrev one : Tree → Read (List Asked)
  one = list_read (may_be_empty which) (listed_read which s)

  alone_then : (t : Tree) (ts : Trees) → AreItemsAt words 2 (First t ts) closing [] → AreInOrder (drop 2 words)
      → outcome (list_alone which s closing (items_of (First t ts))) ≡ and_then (outcome (one t)) (λ a. with_ok a (outcome (last (items_of ts))))
  alone_then t ts at order =
      tree_item one (λ c us. last us) t ts closing [] (inside_tokens one (list_inside (may_be_empty which) (listed_read which s) (listed_inside which s)) t) last_there (subst AreInOrder at.text order)

  -- no list is here
  pub no_list : (items : Trees) → AreItemsAt words 2 items closing [] → AreInOrder (drop 2 words) → ((word_at words 2).kind ≡ kinds.LeftParen → ⊥)
      → outcome (list_alone which s closing (items_of items)) ≡ Err (word_fault 5 (word_at words 2))
  unfolding items_of
  no_list Empty at order other = ap (λ w. Err (word_fault 5 w)) (sym (word_at_items words 2 Empty closing [] at))
  no_list (First (Leaf w) ts) at order other = alone_then (Leaf w) ts at order ∙ ap (λ v. Err (word_fault 5 v)) (sym (word_at_items words 2 (First (Leaf w) ts) closing [] at))
  no_list (First (Group o inner c) ts) at order other = absurd (other (ap (λ w. w.kind) (word_at_items words 2 (First (Group o inner c) ts) closing [] at) ∙ at.proper.0.0))

  module _ (opening inner_end : Word) (inner items : Trees) (at : AreItemsAt words 2 (First (Group opening inner inner_end) items) closing []) (order : AreInOrder (drop 2 words)) where
    abbrev pub after : List Word
    after = tokens_of_items items ++ closing ∷ []

    pub inner_there : AreItemsAt words 3 inner inner_end after
    inner_there = inside words 2 opening inner_end inner after (first_tree words 2 (Group opening inner inner_end) items closing [] at)

    pub inner_order : AreInOrder (drop 3 words)
    inner_order = next_order words 2 (First (Group opening inner inner_end) items) closing [] at order

    abbrev Whole : Result (List Asked × Unit {0}) Fault
    Whole = outcome (list_alone which s closing (items_of (First (Group opening inner inner_end) items)))

    -- a term is missing
    pub missing_term : IsMissing which (word_at words 3).kind true → Whole ≡ Err (word_fault 5 (word_at words 3))
    missing_term is = by_inner inner refl
      where
        by_inner : (v : Trees) → inner ≡ v → Whole ≡ Err (word_fault 5 (word_at words 3))
        by_inner Empty e =
            let there = subst (λ (v : Trees). AreItemsAt words 3 v inner_end after) e inner_there in
            let none : outcome (one (Group opening inner inner_end)) ≡ Err (word_fault 5 (word_at words 3)) =
            ap (λ v. outcome (one (Group opening v inner_end))) e ∙ empty_outcome (may_be_empty which) (listed_read which s) opening inner_end is.0
            ∙ ap (λ w. Err (word_fault 5 w)) (sym (word_at_items words 3 Empty inner_end after there)) in
            alone_then (Group opening inner inner_end) items at order ∙ ap (λ r. and_then r (λ a. with_ok a (outcome (last (items_of items))))) none
        by_inner (First t ts) e =
            let there = subst (λ (v : Trees). AreItemsAt words 3 v inner_end after) e inner_there in
            absurd (front_kind t there.proper.0 (ap (λ w. w.kind) (sym (word_at_items words 3 (First t ts) inner_end after there)) ∙ is.1))

    module _ (some : IsMissing which (word_at words 3).kind false) where
      not_empty : (may_be_empty which ≡ true) ⊎ (inner ≡ Empty → ⊥)
      not_empty = ⊎_elim (λ e. inl e) (λ n. inr (λ e.
          let there = subst (λ (v : Trees). AreItemsAt words 3 v inner_end after) e inner_there in
          n (ap (λ w. w.kind) (word_at_items words 3 Empty inner_end after there) ∙ there.closed))) some

      whole_is : Whole ≡ and_then (outcome (each (listed_read which s) (items_of inner))) (λ a. with_ok a (outcome (last (items_of items))))
      whole_is = alone_then (Group opening inner inner_end) items at order
          ∙ ap (λ r. and_then r (λ a. with_ok a (outcome (last (items_of items))))) (filled_outcome (may_be_empty which) (listed_read which s) opening inner_end inner not_empty)

      module _ (nodes : List Node) (symbols : Symbols) where
        pub items_stop : (e : TakeStop) → ReadsItems nodes symbols words (listed_read which s) inner inner_end after (Err e)
            → ReadsList nodes symbols words which s (First (Group opening inner inner_end) items) closing (Err e)
        items_stop (stop.Fault f) e = whole_is ∙ ap (λ r. and_then r (λ a. with_ok a (outcome (last (items_of items))))) e
        items_stop stop.Memory e = tt

        module _ (l : AskedList) (h : AreRead nodes symbols words (listed_read which s) inner inner_end after l) where
          end_there : AreItemsAt words (l.next + 1) items closing []
          unfolding tokens_of
          end_there =
              let e : suc l.next ≡ l.next + 1 = omega arith in
              subst (λ i. AreItemsAt words i items closing []) e (record { text = drop_next words l.next inner_end after h.at.text; proper = at.proper.1; closed = at.closed })

          pub room : l.next + 1 ≤ length words
          unfolding tokens_of
          room = let long : length (drop l.next words) ≡ suc (length after) = ap length h.at.text in omega (arith, long, length-drop l.next words)

          ended : Whole ≡ and_then (end_at (word_at words (l.next + 1))) (λ u. Ok (h.asked, u))
          ended =
              whole_is ∙ ap (λ r. and_then r (λ a. with_ok a (outcome (last (items_of items))))) h.whole
              ∙ ap (λ r. and_then r (λ u. Ok (h.asked, u))) (end_outcome words (l.next + 1) items closing [] end_there)

          pub end_missing : (f : Fault) → end_at (word_at words (l.next + 1)) ≡ Err f → Whole ≡ Err f
          end_missing f e = ended ∙ ap (λ r. and_then r (λ u. Ok (h.asked, u))) e

          pub list_read_so : end_at (word_at words (l.next + 1)) ≡ Ok tt → IsListRead nodes symbols words which s (First (Group opening inner inner_end) items) closing l
          list_read_so e = record { asked = h.asked; whole = ended ∙ ap (λ r. and_then r (λ u. Ok (h.asked, u))) e; terms = h.terms; weight_is = h.weight_is }

-- the list that is here
pub group_here : (words : List Word) (i : ℕ) (items : Trees) (closing : Word) (rest : List Word) → AreItemsAt words i items closing rest → (word_at words i).kind ≡ kinds.LeftParen
    → (o : Word) × (inner : Trees) × (c : Word) × (ts : Trees) × (items ≡ First (Group o inner c) ts)
group_here words i Empty closing rest at e = let q : kinds.RightParen ≡ kinds.LeftParen = sym at.closed ∙ ap (λ w. w.kind) (sym (word_at_items words i Empty closing rest at)) ∙ e in cc
group_here words i (First (Leaf w) ts) closing rest at e =
    let q : true ≡ false = ap is_parenthesis (sym e) ∙ ap (λ v. is_parenthesis v.kind) (word_at_items words i (First (Leaf w) ts) closing rest at) ∙ at.proper.0 in cc
group_here words i (First (Group o inner c) ts) closing rest at e = (o, inner, c, ts, refl)
