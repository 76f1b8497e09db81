-- What a context keeps where a name of terms comes.
use Rattle.std.proofs.Common.{◌≡◌, ℕ, suc, ◌+◌, ◌-◌, ◌^◌, ◌≤◌, min, true, false, if◌then◌else◌, List, [], ◌∷◌, ◌++◌, All, length, map, reverse, filter_map, flat_map, None, refl, sym, ap, ◌∙◌, subst, arith, append-nil, length-append}
use Rattle.std.specs.Prelude.{Vec}
use Rattle.std.specs.declared.alloc.Global.{Global}
use Rattle.std.proofs.lemmas.Grind.{flat_map-append}
use Rattle.std.proofs.lemmas.List.{map-append}
use Rattle.std.proofs.lemmas.List.Elements.{All-nil, All-head, All-tail, filter_map-append}
use Rattle.ffc_term.specs.declared.node.Sort.{Sort}
use Rattle.ffc_smt.specs.Meaning.{Env}
use Rattle.ffc_smt.specs.Terms.{Name, Constant}
use Rattle.ffc_smt.specs.Scopes.{Meant, AsConstant, AsTerm, AsMacro, Declared, Level, State, scope_of, level_of, declared_of, as_declared, assertions_of, at_innermost, with_name}
use Rattle.ffc_smt.specs.TableChecks.{node_of}
use Rattle.ffc_terms.specs.declared.scope.Meaning.{Meaning}
use Rattle.ffc_terms.specs.Codes.{IsMeaning, AreMeanings}
use Rattle.ffc_elab.specs.declared.answers.Declared.{Declared as Entry}
use Rattle.ffc_elab.specs.declared.levels.Mark.{Mark}
use Rattle.ffc_elab.specs.declared.store.Store.{Store}
use Rattle.ffc_elab.specs.Histories.{Known}
use Rattle.ffc_elab.specs.Answers.{declared_as}
use Rattle.ffc_elab.specs.Kept.{mark_of, IsKept}
use Rattle.ffc_elab.specs.Changes.{with_state, more, more_by, LastIsMore, IsDefinition, HasGlobalNames}
use Rattle.ffc_elab.proofs.LevelLemmas.{reverse_cons, meanings_long}

no_names : (ls rest : List Level) → All (λ l. l.names ≡ []) ls → flat_map (λ l. l.names) (ls ++ rest) ≡ flat_map (λ l. l.names) rest
no_names [] rest h = refl
no_names (l ∷ ls) rest h = ap (λ (xs : Env Meant). xs ++ flat_map (λ l. l.names) (ls ++ rest)) (All-head (λ k. k.names ≡ []) l ls h) ∙ no_names ls rest (All-tail (λ k. k.names ≡ []) l ls h)

few_declared : (xs : Env Meant) → length (filter_map as_declared xs) ≤ length xs
few_declared [] = omega arith
few_declared ((name, AsConstant k s) ∷ xs) = let h = few_declared xs in omega arith
few_declared ((name, AsTerm s t) ∷ xs) = let h = few_declared xs in omega arith
few_declared ((name, AsMacro ps s t) ∷ xs) = let h = few_declared xs in omega arith

-- what a name declares
abbrev pub declares : Name → Meant → List Declared
declares name m = filter_map as_declared ((name, m) ∷ [])

-- a name that comes, as it is counted
abbrev pub a_name : Name → Meant → Mark
a_name name m = record { names = 1; sorts = 0; declared = length (declares name m); asserted = 0 }

declared_more : (name : Name) (m : Meant) (xs : Env Meant) → length xs + 1 ≤ 2 ^ 64 - 1 → more (length (declares name m)) (length (filter_map as_declared xs)) ≡ length (filter_map as_declared ((name, m) ∷ xs))
declared_more name (AsConstant k s) xs h = let few = few_declared xs in omega arith
declared_more name (AsTerm s t) xs h = refl
declared_more name (AsMacro ps s t) xs h = refl

declared_cons : (x : Name × Meant) (xs : Env Meant) → filter_map as_declared (reverse (x ∷ xs)) ≡ filter_map as_declared (reverse xs) ++ filter_map as_declared (x ∷ [])
declared_cons x xs = ap (filter_map as_declared) (reverse_cons x xs) ∙ filter_map-append as_declared (reverse xs) (x ∷ [])

module _ (k : Known) (name : Name) (m : Meant) (cs : List Sort) (x : Store) (h : IsKept k x) where
  abbrev s : State
  s = k.state

  abbrev node : Declared → ℕ
  node d = node_of s.nodes (Constant d.number d.sort)

  module _ (v : Meaning) (meaning : IsMeaning s.nodes x.symbols.terms v m) (count : ℕ) (count_is : count ≡ length cs) (marks : Vec Mark Global) (declared : Vec Entry Global) (nodes : Vec ℕ Global)
      (declared_is : declared.items ≡ x.declared.items ++ map (declared_as s.nodes) (declares name m))
      (nodes_are : nodes.items ≡ x.declared_nodes.items ++ map (λ (d : Declared). node_of s.nodes (Constant d.number d.sort)) (declares name m)) where
    abbrev y : Store
    y = record x { marks = marks; constants = count; declared = declared; declared_nodes = nodes; symbols = record x.symbols { terms = (name, v) ∷ x.symbols.terms } }

    -- a state with one name more
    other_names : (t : State) → t.logic ≡ s.logic → t.options ≡ s.options → level_of t ≡ level_of s → t.constants ≡ cs → t.first_order ≡ s.first_order → t.nodes ≡ s.nodes
        → (scope_of t).names ≡ (name, m) ∷ (scope_of s).names → (scope_of t).sorts ≡ (scope_of s).sorts → assertions_of t ≡ assertions_of s → marks.items ≡ map mark_of (reverse t.levels)
        → IsKept (with_state k t) y
    other_names t logic options level constants first same names sorts asserted marks_are =
        let all : declared_of t ≡ declared_of s ++ declares name m = ap (λ v. filter_map as_declared (reverse v)) names ∙ declared_cons (name, m) (scope_of s).names in
        record {
          logic = h.logic ∙ sym logic;
          options = h.options ∙ sym options;
          marks = marks_are;
          levels = omega (arith, h.levels, level);
          scope = record {
            terms = subst (λ (v : Env Meant). AreMeanings t.nodes y.symbols.terms v) (sym names) (subst (λ ns. AreMeanings ns y.symbols.terms ((name, m) ∷ (scope_of s).names)) (sym same) (refl, meaning, h.scope.terms));
            sorts = h.scope.sorts ∙ sym sorts;
          };
          nodes = h.nodes ∙ sym same;
          constants = count_is ∙ ap length (sym constants);
          first = h.first ∙ sym first;
          in_force = h.in_force ∙ ap (λ v. map (node_of s.nodes) (map (λ a. a.term) v ++ map (λ a. a.term) k.assumptions)) (sym asserted)
              ∙ ap (λ ns. map (node_of ns) (map (λ a. a.term) (assertions_of t) ++ map (λ a. a.term) k.assumptions)) (sym same);
          names = h.names ∙ ap (λ v. map (λ a. a.label) v ++ map (λ a. None) k.assumptions) (sym asserted);
          assumed = h.assumed;
          declared = declared_is ∙ ap (λ v. v ++ map (declared_as s.nodes) (declares name m)) h.declared ∙ sym (map-append (declared_as s.nodes) (declared_of s) (declares name m))
              ∙ ap (map (declared_as s.nodes)) (sym all) ∙ ap (λ ns. map (declared_as ns) (declared_of t)) (sym same);
          declared_nodes = nodes_are ∙ ap (λ v. v ++ map node (declares name m)) h.declared_nodes ∙ sym (map-append node (declared_of s) (declares name m))
              ∙ ap (map node) (sym all) ∙ ap (λ ns. map (λ d. node_of ns (Constant d.number d.sort)) (declared_of t)) (sym same);
        }

    abbrev named : Level → Level
    named l = record l { names = (name, m) ∷ l.names }

    at_base : All (λ l. l.names ≡ []) s.levels → marks.items ≡ x.marks.items → IsKept (with_state k (record s { base = named s.base; constants = cs })) y
    at_base none same =
        let t : State = record s { base = named s.base; constants = cs } in
        let sorts = flat_map-append (λ l. l.sorts) s.levels (named s.base ∷ []) ∙ sym (flat_map-append (λ l. l.sorts) s.levels (s.base ∷ [])) in
        let all = no_names s.levels (named s.base ∷ []) none ∙ ap (λ (v : Env Meant). (name, m) ∷ v) (sym (no_names s.levels (s.base ∷ []) none)) in
        other_names t refl refl refl refl refl refl all sorts refl (same ∙ h.marks)

    at_level : (l : Level) (ls : List Level) → s.levels ≡ l ∷ ls → length x.symbols.terms + 1 ≤ 2 ^ 64 - 1
        → marks.items ≡ map mark_of (reverse ls) ++ more_by (a_name name m) (mark_of l) ∷ [] → IsKept (with_state k (record s { levels = named l ∷ ls; constants = cs })) y
    at_level l ls is few last =
        let t : State = record s { levels = named l ∷ ls; constants = cs } in
        let before : (scope_of s).names ≡ l.names ++ flat_map (λ l. l.names) (ls ++ s.base ∷ []) = ap (λ v. flat_map (λ l. l.names) (v ++ s.base ∷ [])) is in
        let sorts : (scope_of t).sorts ≡ (scope_of s).sorts = ap (λ v. flat_map (λ l. l.sorts) (v ++ s.base ∷ [])) (sym is) in
        let all : (scope_of t).names ≡ (name, m) ∷ (scope_of s).names = ap (λ (v : Env Meant). (name, m) ∷ v) (sym before) in
        let asserted : assertions_of t ≡ assertions_of s =
        ap (λ v. s.base.asserted ++ v) (ap (flat_map (λ l. l.asserted)) (reverse_cons (named l) ls) ∙ flat_map-append (λ l. l.asserted) (reverse ls) (named l ∷ [])
        ∙ sym (flat_map-append (λ l. l.asserted) (reverse ls) (l ∷ [])) ∙ ap (flat_map (λ l. l.asserted)) (sym (reverse_cons l ls)) ∙ ap (λ v. flat_map (λ l. l.asserted) (reverse v)) (sym is)) in
        let some : length l.names ≤ length (scope_of s).names = omega (arith, ap length before, length-append l.names (flat_map (λ l. l.names) (ls ++ s.base ∷ []))) in
        let room : length l.names + 1 ≤ 2 ^ 64 - 1 = omega (arith, some, few, meanings_long s.nodes x.symbols.terms (scope_of s).names h.scope.terms) in
        let one : min (length l.names + 1) (2 ^ 64 - 1) ≡ suc (length l.names) = omega (arith, room) in
        let mark : more_by (a_name name m) (mark_of l) ≡ mark_of (named l) =
        ap (λ n. record (mark_of l) { names = n; declared = more (length (declares name m)) (length (filter_map as_declared l.names)) }) one
        ∙ ap (λ n. record (mark_of l) { names = suc (length l.names); declared = n }) (declared_more name m l.names room) in
        let marks_are = last ∙ ap (λ v. map mark_of (reverse ls) ++ v ∷ []) mark ∙ sym (ap (map mark_of) (reverse_cons (named l) ls) ∙ map-append mark_of (reverse ls) (named l ∷ [])) in
        other_names t refl refl (ap length (sym is)) refl refl refl all sorts asserted marks_are

    pub name_global : All (λ l. l.names ≡ []) s.levels → s.options.global_declarations ≡ true → marks.items ≡ x.marks.items → IsKept (with_state k (record (with_name name m s) { constants = cs })) y
    name_global none g same =
        subst (λ b. IsKept (with_state k (record (at_innermost named (if b then [] else s.levels) s) { constants = cs })) y) (sym g) (at_base none same)

    pub name_local : s.options.global_declarations ≡ false → length x.symbols.terms + 1 ≤ 2 ^ 64 - 1 → LastIsMore (a_name name m) x.marks.items marks.items
        → IsKept (with_state k (record (with_name name m s) { constants = cs })) y
    name_local g few last =
        subst (λ b. IsKept (with_state k (record (at_innermost named (if b then [] else s.levels) s) { constants = cs })) y) (sym g) (by_levels s.levels refl)
      where
        by_levels : (v : List Level) → s.levels ≡ v → IsKept (with_state k (record (at_innermost named s.levels s) { constants = cs })) y
        by_levels [] e =
            let no_marks = h.marks ∙ ap (λ v. map mark_of (reverse v)) e in
            subst (λ v. IsKept (with_state k (record (at_innermost named v s) { constants = cs })) y) (sym e)
            (at_base (subst (All (λ l. l.names ≡ [])) (sym e) (All-nil (λ k. k.names ≡ []))) (last.0 no_marks ∙ sym no_marks))
        by_levels (l ∷ ls) e =
            let are = h.marks ∙ ap (λ v. map mark_of (reverse v)) e ∙ ap (map mark_of) (reverse_cons l ls) ∙ map-append mark_of (reverse ls) (l ∷ []) in
            subst (λ v. IsKept (with_state k (record (at_innermost named v s) { constants = cs })) y) (sym e) (at_level l ls e few (last.1 (map mark_of (reverse ls)) (mark_of l) are))

-- What is no constant declares nothing

none_declared : (name : Name) (m : Meant) → IsDefinition m → declares name m ≡ []
none_declared name (AsConstant k s) h = absurd h
none_declared name (AsTerm s t) h = refl
none_declared name (AsMacro ps s t) h = refl

innermost_constants : (change : Level → Level) (ls : List Level) (s : State) → record (at_innermost change ls s) { constants = s.constants } ≡ at_innermost change ls s
innermost_constants change [] s = refl
innermost_constants change (l ∷ ls) s = refl

module _ (k : Known) (name : Name) (m : Meant) (x : Store) (h : IsKept k x) (v : Meaning) (meaning : IsMeaning k.state.nodes x.symbols.terms v m) (plain : IsDefinition m) (terms : Env Meaning)
    (terms_are : terms ≡ (name, v) ∷ x.symbols.terms) (marks : Vec Mark Global) where
  abbrev change : Level → Level
  change l = record l { names = (name, m) ∷ l.names }

  same : record (with_name name m k.state) { constants = k.state.constants } ≡ with_name name m k.state
  same = innermost_constants change (if k.state.options.global_declarations then [] else k.state.levels) k.state

  unlisted : x.declared.items ≡ x.declared.items ++ map (declared_as k.state.nodes) (declares name m)
  unlisted = sym (ap (λ ds. x.declared.items ++ map (declared_as k.state.nodes) ds) (none_declared name m plain) ∙ append-nil x.declared.items)

  unplaced : x.declared_nodes.items ≡ x.declared_nodes.items ++ map (λ (d : Declared). node_of k.state.nodes (Constant d.number d.sort)) (declares name m)
  unplaced = sym (ap (λ (ds : List Declared). x.declared_nodes.items ++ map (λ (d : Declared). node_of k.state.nodes (Constant d.number d.sort)) ds) (none_declared name m plain) ∙ append-nil x.declared_nodes.items)

  abbrev z : Store
  z = record x { marks = marks; symbols = record x.symbols { terms = terms } }

  end : (s : State) → IsKept (with_state k s) (record x { marks = marks; symbols = record x.symbols { terms = (name, v) ∷ x.symbols.terms } }) → s ≡ with_name name m k.state → IsKept (with_state k (with_name name m k.state)) z
  end s kept e = subst (λ (ts : Env Meaning). IsKept (with_state k (with_name name m k.state)) (record x { marks = marks; symbols = record x.symbols { terms = ts } })) (sym terms_are) (subst (λ t. IsKept (with_state k t) (record x { marks = marks; symbols = record x.symbols { terms = (name, v) ∷ x.symbols.terms } })) e kept)

  pub defined_global : HasGlobalNames k.state → k.state.options.global_declarations ≡ true → marks.items ≡ x.marks.items → IsKept (with_state k (with_name name m k.state)) z
  defined_global known g e =
      end _ (name_global k name m k.state.constants x h v meaning x.constants h.constants marks x.declared x.declared_nodes unlisted unplaced (known g) g e) same

  pub defined_local : k.state.options.global_declarations ≡ false → length x.symbols.terms + 1 ≤ 2 ^ 64 - 1 → LastIsMore (record { names = 1; sorts = 0; declared = 0; asserted = 0 }) x.marks.items marks.items → IsKept (with_state k (with_name name m k.state)) z
  defined_local g few e =
      end _ (name_local k name m k.state.constants x h v meaning x.constants h.constants marks x.declared x.declared_nodes unlisted unplaced g few
      (subst (λ (ds : List Declared). LastIsMore (record { names = 1; sorts = 0; declared = length ds; asserted = 0 }) x.marks.items marks.items) (sym (none_declared name m plain)) e)) same
