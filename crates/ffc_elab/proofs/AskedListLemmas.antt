-- Lists of terms that are asked for, item by item.
use Rattle.std.proofs.Common.{◌≡◌, ◌⊎◌, inl, inr, ⊎_elim, ℕ, suc, ◌+◌, ◌-◌, ◌^◌, ◌≤◌, min, List, [], ◌∷◌, ◌++◌, length, drop, Result, Ok, Err, refl, sym, ap, ◌∙◌, subst, arith, append_assoc, append-nil, length-drop}
use Rattle.std.proofs.lemmas.List.Sums.{sum_by-append, sum_by-cons}
use Rattle.ffc_lex.specs.declared.tokens.TokenKind.TheVariants as kinds
use Rattle.ffc_term.specs.declared.node.Node.{Node}
use Rattle.ffc_smt.specs.Trees.{Word, Tree, Trees, Empty, First, items_of, tokens_of, tokens_of_items}
use Rattle.ffc_smt.specs.Terms.{Asked, weight}
use Rattle.ffc_smt.specs.Faults.{Fault, Read, faults, both}
use Rattle.ffc_smt.specs.CommandReading.{each}
use Rattle.ffc_words.specs.declared.faults.TakeStop.{TakeStop}
use Rattle.ffc_words.specs.declared.faults.TakeStop.TheVariants as stop
use Rattle.ffc_words.specs.Outcomes.{outcome}
use Rattle.ffc_words.specs.Words.{IsTreeAt, AreItemsAt, word_at, fault_of}
use Rattle.ffc_terms.specs.declared.scope.Symbols.{Symbols}
use Rattle.ffc_terms.specs.Codes.{capped_weight}
use Rattle.ffc_elab.specs.declared.asked_lists.AskedList.{AskedList}
use Rattle.ffc_elab.specs.declared.asked_terms.AskedTerm.{AskedTerm}
use Rattle.ffc_elab.specs.Reading.{AreInOrder, and_then}
use Rattle.ffc_elab.specs.Asked.{IsReadAs, IsAskedAt, ReadsAsked}
use Rattle.ffc_elab.specs.AskedLists.{total_weight, AreReadAs, IsReadSoFar, GoesOn, AreRead, ReadsItems}
use Rattle.ffc_elab.proofs.OutcomeLemmas.{outcome_map, outcome_both, with_ok, word_at_items, front_kind, faults_after, spelled_first, drop_plus, tokens_front, tail_of}
use Rattle.ffc_elab.proofs.ItemLemmas.{order_across, one_before, first_tree, after_first, order_drop}
use Rattle.ffc_elab.proofs.AskedFaultLemmas.{FaultsInside, each_there, inside_tokens}

-- the first item, and then the others
each_first : {A : Type 0} (read : Tree → Read A) → FaultsInside read → (t : Tree) (ts : Trees) (closing : Word) (rest : List Word) → AreInOrder (tokens_of_items (First t ts) ++ closing ∷ rest)
    → outcome (each read (items_of (First t ts))) ≡ and_then (outcome (read t)) (λ a. and_then (outcome (each read (items_of ts))) (λ bs. Ok (a ∷ bs)))
unfolding items_of
each_first read inner t ts closing rest order =
    let q = each read (items_of ts) in
    let whole = subst AreInOrder (spelled_first t ts closing rest) order in
    let before = one_before (tokens_of t) (faults (read t)) (faults q) (inside_tokens read inner t) (λ v has.
    faults_after (λ c us. each read us) v ts closing rest (λ P c us m i. each_there read inner P us i) (order_across (tokens_of t) (tokens_of_items ts ++ closing ∷ rest) v whole has)) in
    outcome_map (λ p. p.0 ∷ p.1) (both (read t) q) ∙ ap (λ r. and_then r (λ p. Ok (p.0 ∷ p.1))) (outcome_both (read t) q before) ∙ by_cases (outcome (read t)) (outcome q)
  where
    by_cases : {A : Type 0} (r : Result A Fault) (q : Result (List A) Fault)
        → and_then (and_then r (λ a. with_ok a q)) (λ p. Ok (p.0 ∷ p.1)) ≡ and_then r (λ a. and_then q (λ bs. Ok (a ∷ bs)))
    by_cases (Ok a) (Ok bs) = refl
    by_cases (Ok a) (Err f) = refl
    by_cases (Err f) q = refl

push_read : (nodes : List Node) (symbols : Symbols) (words : List Word) (asked : List Asked) (terms : List AskedTerm) (a : Asked) (t : AskedTerm)
    → AreReadAs nodes symbols words asked terms → IsReadAs nodes symbols words a t → AreReadAs nodes symbols words (asked ++ a ∷ []) (terms ++ t ∷ [])
push_read nodes symbols words [] [] a t h g = (g, tt)
push_read nodes symbols words [] (u ∷ us) a t h g = absurd h
push_read nodes symbols words (b ∷ bs) [] a t h g = absurd h
push_read nodes symbols words (b ∷ bs) (u ∷ us) a t h g = (h.0, push_read nodes symbols words bs us a t h.1 g)

more_weight : (asked : List Asked) (a : Asked) (old one new : ℕ) → old ≡ capped_weight (total_weight asked) → one ≡ capped_weight (weight a.term) → new ≡ min (old + one) (2 ^ 32 - 1)
    → new ≡ capped_weight (total_weight (asked ++ a ∷ []))
more_weight asked a old one new e f g =
    let f1 : Asked → ℕ = λ b. weight b.term in
    let sum : total_weight (asked ++ a ∷ []) ≡ total_weight asked + total_weight (a ∷ []) = sum_by-append f1 asked (a ∷ []) in
    let last : total_weight (a ∷ []) ≡ weight a.term + total_weight [] = sum_by-cons f1 a [] in
    let none : total_weight [] ≡ 0 = refl in
    omega (arith, e, f, g, sum, last, none)

module _ (nodes : List Node) (symbols : Symbols) (words : List Word) (read : Tree → Read Asked) (inner : FaultsInside read) (items : Trees) (closing : Word) (rest : List Word) where
  abbrev SoFar : ℕ → AskedList → Type 0
  SoFar far l = IsReadSoFar nodes symbols words read items closing rest far l

  -- the list ends here
  pub stays : (far : ℕ) (l : AskedList) → SoFar far l → (word_at words l.next).kind ≡ kinds.RightParen → SoFar (far + 1) l
  stays far l h e = by_others h.others refl
    where
      by_others : (v : Trees) → h.others ≡ v → SoFar (far + 1) l
      by_others Empty is = record { asked = h.asked; others = h.others; whole = h.whole; at = h.at; order = h.order; terms = h.terms; weight_is = h.weight_is; far_enough = inr is }
      by_others (First t ts) is =
          let at = subst (λ (v : Trees). AreItemsAt words l.next v closing rest) is h.at in
          absurd (front_kind t at.proper.0 (ap (λ w. w.kind) (sym (word_at_items words l.next (First t ts) closing rest at)) ∙ e))

  module _ (far : ℕ) (l : AskedList) (h : SoFar far l) (open_yet : (word_at words l.next).kind ≡ kinds.RightParen → ⊥) where
    -- an item is here
    pub some_item_here : (v : Trees) → h.others ≡ v → (t : Tree) × (ts : Trees) × (h.others ≡ First t ts)
    some_item_here Empty is =
        let at = subst (λ (v : Trees). AreItemsAt words l.next v closing rest) is h.at in
        absurd (open_yet (ap (λ w. w.kind) (word_at_items words l.next Empty closing rest at) ∙ at.closed))
    some_item_here (First t ts) is = (t, ts, is)

    abbrev pub found : (t : Tree) × (ts : Trees) × (h.others ≡ First t ts)
    found = some_item_here h.others refl

    abbrev pub here : Tree
    here = found.0

    abbrev pub later : Trees
    later = found.1

    items_here : AreItemsAt words l.next (First here later) closing rest
    items_here = subst (λ (v : Trees). AreItemsAt words l.next v closing rest) found.2 h.at

    abbrev pub after_here : List Word
    after_here = tokens_of_items later ++ closing ∷ rest

    pub tree_here : IsTreeAt words l.next here after_here
    tree_here = first_tree words l.next here later closing rest items_here

    split : outcome (each read (items_of items)) ≡ and_then (and_then (outcome (read here)) (λ a. and_then (outcome (each read (items_of later))) (λ bs. Ok (a ∷ bs)))) (λ bs. Ok (h.asked ++ bs))
    split =
        h.whole ∙ ap (λ (v : Trees). and_then (outcome (each read (items_of v))) (λ bs. Ok (h.asked ++ bs))) found.2
        ∙ ap (λ r. and_then r (λ bs. Ok (h.asked ++ bs))) (each_first read inner here later closing rest (subst AreInOrder items_here.text h.order))

    pub goes_wrong : (f : Fault) → outcome (read here) ≡ Err f → outcome (each read (items_of items)) ≡ Err f
    goes_wrong f e = split ∙ ap (λ r. and_then (and_then r (λ a. and_then (outcome (each read (items_of later))) (λ bs. Ok (a ∷ bs)))) (λ bs. Ok (h.asked ++ bs))) e

    pub stops_here : (new : AskedList) (e : TakeStop) → ReadsAsked nodes symbols words (read here) here l.next (Err e) → GoesOn nodes symbols words read items closing rest far new (Err e)
    stops_here new (stop.Fault f) e = goes_wrong (fault_of f) e
    stops_here new stop.Memory e = tt

    module _ (term : AskedTerm) (is : IsAskedAt nodes symbols words (read here) here l.next term) where
      abbrev a : Asked
      a = is.asked

      whole_then : outcome (each read (items_of items)) ≡ and_then (outcome (each read (items_of later))) (λ bs. Ok ((h.asked ++ a ∷ []) ++ bs))
      whole_then =
          split ∙ ap (λ r. and_then (and_then (outcome r) (λ a. and_then (outcome (each read (items_of later))) (λ bs. Ok (a ∷ bs)))) (λ bs. Ok (h.asked ++ bs))) is.sound
          ∙ by_rest (outcome (each read (items_of later)))
        where
          by_rest : (r : Result (List Asked) Fault) → and_then (and_then r (λ bs. Ok (a ∷ bs))) (λ bs. Ok (h.asked ++ bs)) ≡ and_then r (λ bs. Ok ((h.asked ++ a ∷ []) ++ bs))
          by_rest (Ok bs) = ap Ok (sym (append_assoc h.asked (a ∷ []) bs))
          by_rest (Err f) = refl

      next_is : term.next ≡ l.next + length (tokens_of here)
      next_is = is.term.next ∙ ap (λ i. i + length (tokens_of is.asked.tree)) is.place ∙ ap (λ t. l.next + length (tokens_of t)) is.tree_is

      further : far + 1 ≤ term.next
      further =
          let n = next_is in
          let some : length (tokens_of here) ≡ suc (length (tail_of here)) = ap length (tokens_front here) in
          ⊎_elim (λ le. omega (arith, le, n, some)) (λ e. let q : Empty ≡ First here later = sym e ∙ found.2 in cc) h.far_enough

      pub goes_on : (new : AskedList) → new.terms.items ≡ l.terms.items ++ term ∷ [] → new.weight ≡ min (l.weight + term.weight) (2 ^ 32 - 1) → new.next ≡ term.next → SoFar (far + 1) new
      goes_on new terms weighs next = record {
        asked = h.asked ++ a ∷ [];
        others = later;
        whole = whole_then;
        at = subst (λ i. AreItemsAt words i later closing rest) (sym (next ∙ next_is)) (after_first words l.next here later closing rest items_here);
        order = subst (λ i. AreInOrder (drop i words)) (sym (next ∙ next_is)) (subst AreInOrder (sym (drop_plus (length (tokens_of here)) l.next words)) (order_drop (length (tokens_of here)) (drop l.next words) h.order));
        terms = subst (AreReadAs nodes symbols words (h.asked ++ a ∷ [])) (sym terms) (push_read nodes symbols words h.asked l.terms.items a term h.terms is.term);
        weight_is = more_weight h.asked a l.weight term.weight new.weight h.weight_is is.term.weight_is weighs;
        far_enough = inl (subst (λ n. far + 1 ≤ n) (sym next) further);
      }

  -- at first
  pub starts : (l : AskedList) → l.terms.items ≡ [] → l.weight ≡ 0 → AreItemsAt words l.next items closing rest → AreInOrder (drop l.next words) → SoFar l.next l
  starts l none light at order = record {
    asked = [];
    others = items;
    whole = by_result (outcome (each read (items_of items)));
    at = at;
    order = order;
    terms = subst (AreReadAs nodes symbols words []) (sym none) tt;
    weight_is = light;
    far_enough = inl (omega arith);
  }
    where
      by_result : (r : Result (List Asked) Fault) → r ≡ and_then r (λ bs. Ok ([] ++ bs))
      by_result (Ok bs) = refl
      by_result (Err f) = refl

  -- after so many rounds
  pub ends : (far : ℕ) (l : AskedList) → length words ≤ far → SoFar far l → AreRead nodes symbols words read items closing rest l
  unfolding items_of
  ends far l all h = by_others h.others refl
    where
      by_others : (v : Trees) → h.others ≡ v → AreRead nodes symbols words read items closing rest l
      by_others Empty is = record {
        asked = h.asked;
        whole = h.whole ∙ ap (λ (v : Trees). and_then (outcome (each read (items_of v))) (λ bs. Ok (h.asked ++ bs))) is ∙ ap Ok (append-nil h.asked);
        at = subst (λ (v : Trees). AreItemsAt words l.next v closing rest) is h.at;
        terms = h.terms;
        weight_is = h.weight_is;
      }
      by_others (First t ts) is =
          let at = subst (λ (v : Trees). AreItemsAt words l.next v closing rest) is h.at in
          let text = at.text ∙ spelled_first t ts closing rest ∙ ap (λ ws. ws ++ (tokens_of_items ts ++ closing ∷ rest)) (tokens_front t) in
          let some : length (drop l.next words) ≡ suc (length (tail_of t ++ (tokens_of_items ts ++ closing ∷ rest))) = ap length text in
          let far_or : (far ≤ l.next) ⊎ (h.others ≡ Empty) = h.far_enough in
          ⊎_elim (λ le. absurd (omega (arith, le, all, some, length-drop l.next words))) (λ e. let q : Empty ≡ First t ts = sym e ∙ is in cc) far_or

  pub stopped : (far : ℕ) (l : AskedList) (e : TakeStop) → GoesOn nodes symbols words read items closing rest far l (Err e) → ReadsItems nodes symbols words read items closing rest (Err e)
  stopped far l (stop.Fault f) h = h
  stopped far l stop.Memory h = tt
