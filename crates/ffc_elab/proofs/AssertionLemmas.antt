-- What a context keeps where a term is asserted.
use Rattle.std.proofs.Common.{◌≡◌, ℕ, ◌+◌, ◌-◌, ◌^◌, ◌≤◌, min, List, [], ◌∷◌, ◌++◌, length, take, map, reverse, filter_map, flat_map, Option, None, refl, sym, ap, ◌∙◌, subst, arith, append_assoc, append-nil, length-append}
use Rattle.std.specs.Prelude.{Vec}
use Rattle.std.specs.declared.alloc.Global.{Global}
use Rattle.std.proofs.lemmas.List.{map-append, length-map}
use Rattle.ffc_smt.specs.Terms.{Name, Term, Constant}
use Rattle.ffc_smt.specs.Scopes.{Scope, Assertion, Level, State, scope_of, level_of, declared_of, as_declared, assertions_of, at_innermost, with_assertion}
use Rattle.ffc_smt.specs.TableChecks.{node_of}
use Rattle.ffc_terms.specs.Codes.{IsScope}
use Rattle.ffc_elab.specs.declared.levels.Mark.{Mark}
use Rattle.ffc_elab.specs.declared.store.Store.{Store}
use Rattle.ffc_elab.specs.Histories.{Known}
use Rattle.ffc_elab.specs.Answers.{declared_as}
use Rattle.ffc_elab.specs.Kept.{mark_of, IsKept}
use Rattle.ffc_elab.specs.Changes.{in_state, more_by, LastIsMore}
use Rattle.ffc_elab.proofs.LevelLemmas.{take_front, reverse_cons, assertions_less}

abbrev an_assertion : Mark
an_assertion = record { names = 0; sorts = 0; declared = 0; asserted = 1 }

module _ (k : Known) (t : Term) (label : Option Name) (x : Store) (h : IsKept k x) (node : ℕ) (node_is : node ≡ node_of k.state.nodes t) (forced : Vec ℕ Global) (names : Vec (Option Name) Global) (marks : Vec Mark Global)
    (forced_is : forced.items ≡ take (length x.in_force.items - x.assumed) x.in_force.items ++ node ∷ []) (names_are : names.items ≡ take (length x.in_force.items - x.assumed) x.names.items ++ label ∷ []) where
  abbrev s : State
  s = k.state

  abbrev a : Assertion
  a = record { term = t; label = label }

  abbrev y : Store
  y = record x { marks = marks; in_force = forced; names = names; assumed = 0 }

  abbrev old_terms : List Term
  old_terms = map (λ b. b.term) (assertions_of s)

  abbrev assumed_terms : List Term
  assumed_terms = map (λ b. b.term) k.assumptions

  abbrev old_labels : List (Option Name)
  old_labels = map (λ b. b.label) (assertions_of s)

  abbrev no_labels : List (Option Name)
  no_labels = map (λ _. None) k.assumptions

  forced_old : take (length x.in_force.items - x.assumed) x.in_force.items ≡ map (node_of s.nodes) old_terms
  forced_old =
      take_front x.in_force.items (map (node_of s.nodes) old_terms) (map (node_of s.nodes) assumed_terms) x.assumed
      (h.in_force ∙ map-append (node_of s.nodes) old_terms assumed_terms) (h.assumed ∙ sym (length-map assumed_terms (node_of s.nodes) ∙ length-map k.assumptions (λ b. b.term)))

  none_long : length no_labels ≡ length k.assumptions
  none_long = length-map k.assumptions (λ _. None)

  lengths : length x.in_force.items ≡ length x.names.items
  lengths =
      let terms : length old_terms ≡ length (assertions_of s) = length-map (assertions_of s) (λ b. b.term) in
      let asked : length assumed_terms ≡ length k.assumptions = length-map k.assumptions (λ b. b.term) in
      let labels : length old_labels ≡ length (assertions_of s) = length-map (assertions_of s) (λ b. b.label) in
      let one : length x.in_force.items ≡ length old_terms + length assumed_terms = ap length h.in_force ∙ length-map (old_terms ++ assumed_terms) (node_of s.nodes) ∙ length-append old_terms assumed_terms in
      let two : length x.names.items ≡ length old_labels + length no_labels = ap length h.names ∙ length-append old_labels no_labels in
      omega (arith, one, two, terms, asked, labels, none_long)

  names_old : take (length x.in_force.items - x.assumed) x.names.items ≡ old_labels
  names_old = ap (λ n. take (n - x.assumed) x.names.items) lengths ∙ take_front x.names.items old_labels no_labels x.assumed h.names (h.assumed ∙ sym none_long)

  asserted_then : (u : State) → u.logic ≡ s.logic → u.options ≡ s.options → level_of u ≡ level_of s → u.constants ≡ s.constants → u.first_order ≡ s.first_order → u.nodes ≡ s.nodes → scope_of u ≡ scope_of s
      → assertions_of u ≡ assertions_of s ++ a ∷ [] → marks.items ≡ map mark_of (reverse u.levels) → IsKept (in_state u) y
  asserted_then u logic options level constants first same scope asserted marks_are =
      let terms : map (λ b. b.term) (assertions_of u) ++ [] ≡ old_terms ++ t ∷ [] =
      append-nil (map (λ b. b.term) (assertions_of u)) ∙ ap (map (λ b. b.term)) asserted ∙ map-append (λ (b : Assertion). b.term) (assertions_of s) (a ∷ []) in
      let labels : map (λ b. b.label) (assertions_of u) ++ [] ≡ old_labels ++ label ∷ [] =
      append-nil (map (λ b. b.label) (assertions_of u)) ∙ ap (map (λ b. b.label)) asserted ∙ map-append (λ (b : Assertion). b.label) (assertions_of s) (a ∷ []) in
      record {
        logic = h.logic ∙ sym logic;
        options = h.options ∙ sym options;
        marks = marks_are;
        levels = omega (arith, h.levels, level);
        scope = subst (λ sc. IsScope u.nodes x.symbols sc) (sym scope) (subst (λ ns. IsScope ns x.symbols (scope_of s)) (sym same) h.scope);
        nodes = h.nodes ∙ sym same;
        constants = h.constants ∙ ap length (sym constants);
        first = h.first ∙ sym first;
        in_force = forced_is ∙ ap (λ v. v ++ node ∷ []) forced_old ∙ ap (λ n. map (node_of s.nodes) old_terms ++ n ∷ []) node_is ∙ sym (map-append (node_of s.nodes) old_terms (t ∷ []))
            ∙ ap (map (node_of s.nodes)) (sym terms) ∙ ap (λ ns. map (node_of ns) (map (λ b. b.term) (assertions_of u) ++ [])) (sym same);
        names = names_are ∙ ap (λ v. v ++ label ∷ []) names_old ∙ sym labels;
        assumed = refl;
        declared = h.declared ∙ ap (λ (sc : Scope). map (declared_as s.nodes) (filter_map as_declared (reverse sc.names))) (sym scope) ∙ ap (λ ns. map (declared_as ns) (declared_of u)) (sym same);
        declared_nodes = h.declared_nodes ∙ ap (λ (sc : Scope). map (λ d. node_of s.nodes (Constant d.number d.sort)) (filter_map as_declared (reverse sc.names))) (sym scope)
            ∙ ap (λ ns. map (λ d. node_of ns (Constant d.number d.sort)) (declared_of u)) (sym same);
      }

  abbrev more_asserted : Level → Level
  more_asserted l = record l { asserted = l.asserted ++ a ∷ [] }

  pub assertion_kept : length forced.items ≤ 2 ^ 64 - 1 → LastIsMore an_assertion x.marks.items marks.items → IsKept (in_state (with_assertion a s)) y
  assertion_kept room last = by_levels s.levels refl
    where
      by_levels : (v : List Level) → s.levels ≡ v → IsKept (in_state (at_innermost more_asserted s.levels s)) y
      by_levels [] e =
          let no_marks = h.marks ∙ ap (λ v. map mark_of (reverse v)) e in
          let u : State = record s { base = more_asserted s.base } in
          let none : flat_map (λ l. l.asserted) (reverse s.levels) ≡ [] = ap (λ v. flat_map (λ l. l.asserted) (reverse v)) e in
          let asserted : assertions_of u ≡ assertions_of s ++ a ∷ [] =
          ap (λ v. (s.base.asserted ++ a ∷ []) ++ v) none ∙ append-nil (s.base.asserted ++ a ∷ []) ∙ ap (λ v. v ++ a ∷ []) (sym (ap (λ v. s.base.asserted ++ v) none ∙ append-nil s.base.asserted)) in
          let scope : scope_of u ≡ scope_of s =
          subst (λ v. scope_of (record s { levels = v; base = more_asserted s.base }) ≡ scope_of (record s { levels = v })) (sym e) refl in
          subst (λ v. IsKept (in_state (at_innermost more_asserted v s)) y) (sym e)
          (asserted_then u refl refl refl refl refl refl scope asserted (last.0 no_marks ∙ sym no_marks ∙ h.marks))
      by_levels (l ∷ ls) e =
          let are = h.marks ∙ ap (λ v. map mark_of (reverse v)) e ∙ ap (map mark_of) (reverse_cons l ls) ∙ map-append mark_of (reverse ls) (l ∷ []) in
          let u : State = record s { levels = more_asserted l ∷ ls } in
          let below : List Assertion = assertions_of (record s { levels = ls }) in
          let before : assertions_of s ≡ below ++ l.asserted = ap (λ v. assertions_of (record s { levels = v })) e ∙ assertions_less s l ls in
          let asserted : assertions_of u ≡ assertions_of s ++ a ∷ [] =
          assertions_less s (more_asserted l) ls ∙ sym (append_assoc below l.asserted (a ∷ [])) ∙ ap (λ v. v ++ a ∷ []) (sym before) in
          let scope : scope_of u ≡ scope_of s = ap (λ v. scope_of (record s { levels = v })) (sym e) in
          let long : length forced.items ≡ length (assertions_of s) + 1 =
          ap length (forced_is ∙ ap (λ v. v ++ node ∷ []) forced_old) ∙ length-append (map (node_of s.nodes) old_terms) (node ∷ [])
          ∙ ap (λ n. n + 1) (length-map old_terms (node_of s.nodes) ∙ length-map (assertions_of s) (λ b. b.term)) in
          let some : length l.asserted + 1 ≤ 2 ^ 64 - 1 = omega (arith, room, long, ap length before, length-append below l.asserted) in
          let after_one : length (l.asserted ++ a ∷ []) ≡ length l.asserted + 1 = length-append l.asserted (a ∷ []) in
          let count : min (length l.asserted + 1) (2 ^ 64 - 1) ≡ length (l.asserted ++ a ∷ []) = omega (arith, some, after_one) in
          let mark : more_by an_assertion (mark_of l) ≡ mark_of (more_asserted l) = ap (λ n. record (mark_of l) { asserted = n }) count in
          let marks_are = last.1 (map mark_of (reverse ls)) (mark_of l) are ∙ ap (λ m. map mark_of (reverse ls) ++ m ∷ []) mark
          ∙ sym (ap (map mark_of) (reverse_cons (more_asserted l) ls) ∙ map-append mark_of (reverse ls) (more_asserted l ∷ [])) in
          subst (λ v. IsKept (in_state (at_innermost more_asserted v s)) y) (sym e) (asserted_then u refl refl (ap length (sym e)) refl refl refl scope asserted marks_are)
