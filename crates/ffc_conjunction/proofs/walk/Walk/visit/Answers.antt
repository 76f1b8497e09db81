use Rattle.std.proofs.Common.{◌≡◌, ◌<◌, [], ◌∷◌, get_or, Contains, refl, sym, ap, ◌∙◌, subst, arith}
use Rattle.std.proofs.lemmas.List.Elements.{Contains-get_or}
use Rattle.ffc_term.specs.declared.node.Node.TheVariants.{True, And, Eq}
use Rattle.ffc_term.specs.Nodes.{IsNodeAt, children}
use Rattle.ffc_term.proofs.WalkLemmas.{child_below}
use Rattle.ffc_bounds.specs.Conjunctions.{is_plain}
use Rattle.ffc_rules.proofs.AssignmentLemmas.{node_at-is}
use Rattle.ffc_conjunction.proofs.VisitLemmas.{visit_true, visit_and, visit_eq, other_node}
use Rattle.ffc_conjunction.proofs.walk.Walk.visit.Goals as goal

pub assert_parts-requires : goal.assert_parts-requires
assert_parts-requires c = λ i d inside.
    let table = c.args.table.now in
    let node = c.node.result.now in
    let list = c.as_slice.result.now in
    let x = get_or list i d in
    let same : list ≡ children node = c.as_slice.ensures ∙ ap children (sym c.in-And.is) in
    let below : x < c.args.id = child_below table c.args.id x node c.node.ensures.valid.well_formed c.node.ensures.at (subst (λ xs. Contains xs x) same (Contains-get_or list i d inside)) in
    omega (arith, c.requires.within, c.requires.long)

pub visit_negation-requires-clause-within : goal.visit_negation-requires-clause-within
visit_negation-requires-clause-within c =
    let table = c.args.table.now in
    let node = c.node.result.now in
    let a = c.in-Not.a in
    let here : Contains (a ∷ []) a = (0, omega arith, refl) in
    let below : a < c.args.id = child_below table c.args.id a node c.node.ensures.valid.well_formed c.node.ensures.at (subst (λ n. Contains (children n) a) (sym c.in-Not.is) here) in
    omega (arith, c.requires.within)

pub returns-in-True-clause-visits : goal.returns-in-True-clause-visits
returns-in-True-clause-visits c = λ k found denied same has s.
    let id = c.args.id in
    let at : IsNodeAt k.nodes id True = subst (λ ns. IsNodeAt ns id True) (sym same) (subst (IsNodeAt c.args.table.now id) c.in-True.is c.node.ensures.at) in
    visit_true k found denied id c.args.self.now c.args.self.now (node_at-is k.nodes id True at) s refl refl

pub returns-in_ok-assert_parts-in-And-clause-visits : goal.returns-in_ok-assert_parts-in-And-clause-visits
returns-in_ok-assert_parts-in-And-clause-visits c = λ k found denied same has s.
    let id = c.args.id in
    let list = c.as_slice.result.now in
    let is : c.node.result.now ≡ And list = c.in-And.is ∙ ap And (sym c.as_slice.ensures) in
    let at : IsNodeAt k.nodes id (And list) = subst (λ ns. IsNodeAt ns id (And list)) (sym same) (subst (IsNodeAt c.args.table.now id) is c.node.ensures.at) in
    visit_and k found denied id c.args.self.now _ list (node_at-is k.nodes id (And list) at) (c.in_ok-assert_parts-in-And.ensures.forced k found denied at has s) refl refl

pub returns-in_ok-push-in-Eq-clause-visits : goal.returns-in_ok-push-in-Eq-clause-visits
returns-in_ok-push-in-Eq-clause-visits c = λ k found denied same has s.
    let id = c.args.id in
    let x = c.in-Eq.field-0 in
    let y = c.in-Eq.field-1 in
    let at : IsNodeAt k.nodes id (Eq x y) = subst (λ ns. IsNodeAt ns id (Eq x y)) (sym same) (subst (IsNodeAt c.args.table.now id) c.in-Eq.is c.node.ensures.at) in
    visit_eq k found denied id c.args.self.now _ x y (node_at-is k.nodes id (Eq x y) at) s c.in_ok-push-in-Eq.ensures.items refl

pub returns-in_default : goal.returns-in_default
returns-in_default c =
    let d = c.in_default in
    let id = c.args.id in
    let n = c.node.result.now in
    record {
      long = c.requires.long;
      visits = λ k found denied same has s.
          let at : IsNodeAt k.nodes id n = subst (λ ns. IsNodeAt ns id n) (sym same) c.node.ensures.at in
          ap (is_plain k.nodes) (node_at-is k.nodes id n at) ∙ other_node k.nodes n d.not-True d.not-Not d.not-And d.not-Eq;
    }
