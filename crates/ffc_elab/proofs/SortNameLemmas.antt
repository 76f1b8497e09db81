-- What a context keeps where a sort is named.
use Rattle.std.proofs.Common.{◌≡◌, suc, ◌+◌, ◌-◌, ◌^◌, ◌≤◌, min, true, false, if◌then◌else◌, List, [], ◌∷◌, ◌++◌, length, map, reverse, filter_map, flat_map, refl, sym, ap, ◌∙◌, subst, arith, length-append, All, None, Ok}
use Rattle.std.specs.Prelude.{Vec}
use Rattle.std.specs.declared.alloc.Global.{Global}
use Rattle.std.proofs.lemmas.Grind.{flat_map-append}
use Rattle.std.proofs.lemmas.List.{map-append}
use Rattle.std.proofs.lemmas.List.Elements.{All-nil, All-head, All-tail}
use Rattle.ffc_term.specs.declared.node.Sort.{Sort}
use Rattle.ffc_smt.specs.Meaning.{Env}
use Rattle.ffc_smt.specs.Terms.{Name, Constant}
use Rattle.ffc_smt.specs.Scopes.{Meant, Level, State, scope_of, level_of, declared_of, as_declared, assertions_of, at_innermost, with_sort}
use Rattle.ffc_smt.specs.TableChecks.{node_of}
use Rattle.ffc_field.specs.Orders.{IsOrder}
use Rattle.ffc_smt.specs.Terms as smt
use Rattle.ffc_smt.specs.Trees.{Word, Tree, items_of}
use Rattle.ffc_smt.specs.Faults.{Sound}
use Rattle.ffc_smt.specs.CommandReading.{limits, nodes_after, command_weight, form_read, command_read}
use Rattle.ffc_smt.specs.Scripts.{after, first_named, named_orders, orders_in}
use Rattle.ffc_smt.proofs.OrderLemmas.{named_are_orders}
use Rattle.ffc_parts.specs.declared.heads.Head.TheVariants as head
use Rattle.ffc_words.specs.Outcomes.{outcome}
use Rattle.ffc_terms.specs.Codes.{AreMeanings}
use Rattle.ffc_elab.specs.declared.levels.Mark.{Mark}
use Rattle.ffc_elab.specs.declared.store.Store.{Store}
use Rattle.ffc_elab.specs.Histories.{Known}
use Rattle.ffc_elab.specs.Answers.{declared_as}
use Rattle.ffc_elab.specs.Kept.{mark_of, IsKept, IsKnown, HaveNoSorts}
use Rattle.ffc_elab.specs.Changes.{in_state, with_orders, with_state, more_by, LastIsMore}
use Rattle.ffc_elab.specs.declared.answers.Command.TheVariants as command
use Rattle.ffc_elab.specs.declared.answers.Effect.TheVariants as effect
use Rattle.ffc_elab.specs.Orders.{orders_of}
use Rattle.ffc_elab.specs.Reading.{IsFormOf, IsCommandForm, read_by_head}
use Rattle.ffc_elab.specs.Taking.{IsCommandTaken}
use Rattle.ffc_elab.proofs.ChangeLemmas.{quiet_read, sound_of}
use Rattle.ffc_elab.proofs.OrderLemmas.{tree_orders}
use Rattle.ffc_elab.proofs.LevelLemmas.{reverse_cons}

abbrev a_sort : Mark
a_sort = record { names = 0; sorts = 1; declared = 0; asserted = 0 }

no_sorts : (ls rest : List Level) → HaveNoSorts ls → flat_map (λ l. l.sorts) (ls ++ rest) ≡ flat_map (λ l. l.sorts) rest
no_sorts [] rest h = refl
no_sorts (l ∷ ls) rest h = ap (λ (xs : Env Sort). xs ++ flat_map (λ l. l.sorts) (ls ++ rest)) (All-head (λ k. k.sorts ≡ []) l ls h) ∙ no_sorts ls rest (All-tail (λ k. k.sorts ≡ []) l ls h)

module _ (k : Known) (name : Name) (sort : Sort) (x : Store) (sorts : Env Sort) (marks : Vec Mark Global) (h : IsKept k x) where
  abbrev s : State
  s = k.state

  abbrev y : Store
  y = record x { marks = marks; symbols = record x.symbols { sorts = sorts } }

  -- a state with other names of sorts alone
  other_sorts : (t : State) → t.logic ≡ s.logic → t.options ≡ s.options → level_of t ≡ level_of s → t.constants ≡ s.constants → t.first_order ≡ s.first_order → t.nodes ≡ s.nodes
      → (scope_of t).names ≡ (scope_of s).names → (scope_of t).sorts ≡ sorts → assertions_of t ≡ assertions_of s → marks.items ≡ map mark_of (reverse t.levels) → IsKept (with_state k t) y
  other_sorts t logic options level constants first nodes names sorts_are asserted marks_are = record {
    logic = h.logic ∙ sym logic;
    options = h.options ∙ sym options;
    marks = marks_are;
    levels = omega (arith, h.levels, level);
    scope = record {
      terms = subst (λ (v : Env Meant). AreMeanings t.nodes x.symbols.terms v) (sym names) (subst (λ ns. AreMeanings ns x.symbols.terms (scope_of s).names) (sym nodes) h.scope.terms);
      sorts = sym sorts_are;
    };
    nodes = h.nodes ∙ sym nodes;
    constants = h.constants ∙ ap length (sym constants);
    first = h.first ∙ sym first;
    in_force = h.in_force ∙ ap (λ v. map (node_of s.nodes) (map (λ a. a.term) v ++ map (λ a. a.term) k.assumptions)) (sym asserted)
        ∙ ap (λ ns. map (node_of ns) (map (λ a. a.term) (assertions_of t) ++ map (λ a. a.term) k.assumptions)) (sym nodes);
    names = h.names ∙ ap (λ v. map (λ a. a.label) v ++ map (λ a. None) k.assumptions) (sym asserted);
    assumed = h.assumed;
    declared = h.declared ∙ ap (λ v. map (declared_as s.nodes) (filter_map as_declared (reverse v))) (sym names) ∙ ap (λ ns. map (declared_as ns) (declared_of t)) (sym nodes);
    declared_nodes = h.declared_nodes ∙ ap (λ v. map (λ d. node_of s.nodes (Constant d.number d.sort)) (filter_map as_declared (reverse v))) (sym names)
        ∙ ap (λ ns. map (λ d. node_of ns (Constant d.number d.sort)) (declared_of t)) (sym nodes);
  }

  abbrev named : Level → Level
  named l = record l { sorts = (name, sort) ∷ l.sorts }

  at_base : (sorts_are : sorts ≡ (name, sort) ∷ x.symbols.sorts) → HaveNoSorts s.levels → marks.items ≡ x.marks.items → IsKept (with_state k (record s { base = named s.base })) y
  at_base sorts_are none same =
      let t : State = record s { base = named s.base } in
      let names = flat_map-append (λ l. l.names) s.levels (named s.base ∷ []) ∙ sym (flat_map-append (λ l. l.names) s.levels (s.base ∷ [])) in
      let all = no_sorts s.levels (named s.base ∷ []) none ∙ ap (λ (v : Env Sort). (name, sort) ∷ v) (sym (no_sorts s.levels (s.base ∷ []) none) ∙ sym h.scope.sorts) ∙ sym sorts_are in
      other_sorts t refl refl refl refl refl refl names all refl (same ∙ h.marks)

  at_level : (l : Level) (ls : List Level) → s.levels ≡ l ∷ ls → (sorts_are : sorts ≡ (name, sort) ∷ x.symbols.sorts) → length sorts ≤ 2 ^ 64 - 1
      → marks.items ≡ map mark_of (reverse ls) ++ more_by a_sort (mark_of l) ∷ [] → IsKept (with_state k (record s { levels = named l ∷ ls })) y
  at_level l ls is sorts_are few last =
      let t : State = record s { levels = named l ∷ ls } in
      let before : (scope_of s).sorts ≡ l.sorts ++ flat_map (λ l. l.sorts) (ls ++ s.base ∷ []) = ap (λ v. flat_map (λ l. l.sorts) (v ++ s.base ∷ [])) is in
      let names : (scope_of t).names ≡ (scope_of s).names = ap (λ v. flat_map (λ l. l.names) (v ++ s.base ∷ [])) (sym is) in
      let all : (scope_of t).sorts ≡ sorts = ap (λ (v : Env Sort). (name, sort) ∷ v) (sym before ∙ sym h.scope.sorts) ∙ sym sorts_are in
      let asserted : assertions_of t ≡ assertions_of s =
      ap (λ v. s.base.asserted ++ v) (ap (flat_map (λ l. l.asserted)) (reverse_cons (named l) ls) ∙ flat_map-append (λ l. l.asserted) (reverse ls) (named l ∷ [])
      ∙ sym (flat_map-append (λ l. l.asserted) (reverse ls) (l ∷ [])) ∙ ap (flat_map (λ l. l.asserted)) (sym (reverse_cons l ls)) ∙ ap (λ v. flat_map (λ l. l.asserted) (reverse v)) (sym is)) in
      let some : length l.sorts ≤ length (scope_of s).sorts = omega (arith, ap length before, length-append l.sorts (flat_map (λ l. l.sorts) (ls ++ s.base ∷ []))) in
      let count : min (length l.sorts + 1) (2 ^ 64 - 1) ≡ suc (length l.sorts) = omega (arith, some, few, ap length sorts_are, ap length h.scope.sorts) in
      let mark : more_by a_sort (mark_of l) ≡ mark_of (named l) = ap (λ n. record (mark_of l) { sorts = n }) count in
      let marks_are = last ∙ ap (λ m. map mark_of (reverse ls) ++ m ∷ []) mark ∙ sym (ap (map mark_of) (reverse_cons (named l) ls) ∙ map-append mark_of (reverse ls) (named l ∷ [])) in
      other_sorts t refl refl (ap length (sym is)) refl refl refl names all asserted marks_are

  pub sort_global : IsKnown k → s.options.global_declarations ≡ true → sorts ≡ (name, sort) ∷ x.symbols.sorts → marks.items ≡ x.marks.items → IsKept (with_state k (with_sort name sort s)) y
  sort_global known g sorts_are same =
      subst (λ b. IsKept (with_state k (at_innermost named (if b then [] else s.levels) s)) y) (sym g) (at_base sorts_are (known.sorts g) same)

  pub sort_local : s.options.global_declarations ≡ false → sorts ≡ (name, sort) ∷ x.symbols.sorts → length sorts ≤ 2 ^ 64 - 1 → LastIsMore a_sort x.marks.items marks.items
      → IsKept (with_state k (with_sort name sort s)) y
  sort_local g sorts_are few last =
      subst (λ b. IsKept (with_state k (at_innermost named (if b then [] else s.levels) s)) y) (sym g) (by_levels s.levels refl)
    where
      by_levels : (v : List Level) → s.levels ≡ v → IsKept (with_state k (at_innermost named s.levels s)) y
      by_levels [] e =
          let no_marks = h.marks ∙ ap (λ v. map mark_of (reverse v)) e in
          subst (λ v. IsKept (with_state k (at_innermost named v s)) y) (sym e) (at_base sorts_are (subst HaveNoSorts (sym e) (All-nil (λ k. k.sorts ≡ []))) (last.0 no_marks ∙ sym no_marks))
      by_levels (l ∷ ls) e =
          let are = h.marks ∙ ap (λ v. map mark_of (reverse v)) e ∙ ap (map mark_of) (reverse_cons l ls) ∙ map-append mark_of (reverse ls) (l ∷ []) in
          subst (λ v. IsKept (with_state k (at_innermost named v s)) y) (sym e) (at_level l ls e sorts_are few (last.1 (map mark_of (reverse ls)) (mark_of l) are))

-- The command

innermost_nodes : (change : Level → Level) (ls : List Level) (s : State) → (at_innermost change ls s).nodes ≡ s.nodes
innermost_nodes change [] s = refl
innermost_nodes change (l ∷ ls) s = refl

pub innermost_first : (change : Level → Level) (ls : List Level) (s : State) → (at_innermost change ls s).first_order ≡ s.first_order
innermost_first change [] s = refl
innermost_first change (l ∷ ls) s = refl

sort_after : (s : State) (tree : Tree) (name : Name) (sort : Sort) → after s tree (smt.DefineSort name sort) ≡ with_orders (orders_in tree) (with_sort name sort s)
unfolding after nodes_after named_orders
sort_after s tree name sort =
    let change : Level → Level = λ l. record l { sorts = (name, sort) ∷ l.sorts } in
    let ls = if s.options.global_declarations then [] else s.levels in
    let t = with_sort name sort s in
    ap (λ ns. record t { nodes = ns; first_order = first_named s.first_order (orders_in tree) }) (sym (innermost_nodes change ls s))
    ∙ ap (λ o. record t { first_order = first_named o (orders_in tree) }) (sym (innermost_first change ls s))

-- the orders of a form whose command names them
pub form_orders : (words : List Word) (tree : Tree) → IsFormOf words tree → orders_in tree ≡ orders_of words
form_orders words tree form = tree_orders tree form.proper ∙ ap orders_of form.spelled

module _ (k : Known) (tree : Tree) (words : List Word) (known : IsKnown k) (whole : IsFormOf words tree) (form : IsCommandForm words k.state tree head.DefineSort)
    (name : Name) (sort : Sort) (e : Ok (smt.DefineSort name sort) ≡ outcome (read_by_head limits k.state head.DefineSort form.closing (items_of form.items))) where
  read_so : command_read limits k.state tree ≡ Sound (smt.DefineSort name sort)
  unfolding nodes_after command_weight
  read_so = quiet_read k.state tree (smt.DefineSort name sort) refl refl known.sound.nodes.table.well_formed.within (sound_of (form_read limits k.state tree) (smt.DefineSort name sort) (form.read ∙ sym e))

  pub sort_orders : All IsOrder (orders_of words)
  unfolding named_orders
  sort_orders = subst (All IsOrder) (form_orders words tree whole) (named_are_orders limits k.state tree (smt.DefineSort name sort) read_so)

  pub sort_taken : (x : Store) → IsKept (in_state (with_orders (orders_of words) (with_sort name sort k.state))) x → IsCommandTaken k tree x (command.Quiet effect.EndsModel)
  sort_taken x kept = record {
    command = smt.DefineSort name sort;
    read = read_so;
    kept = subst (λ s. IsKept (in_state s) x) (ap (λ ps. with_orders ps (with_sort name sort k.state)) (sym (form_orders words tree whole)) ∙ sym (sort_after k.state tree name sort)) kept;
    answered = refl;
  }
