use Rattle.std.proofs.Common.{refl, sym, subst}
use Rattle.ffc_term.specs.declared.node.Node.TheVariants.{Not, Eq}
use Rattle.ffc_term.specs.Nodes.{IsNodeAt}
use Rattle.ffc_rules.proofs.AssignmentLemmas.{node_at-is}
use Rattle.ffc_conjunction.proofs.VisitLemmas.{not_gives, visit_not}
use Rattle.ffc_conjunction.proofs.walk.Walk.visit_negation.Goals as goal

pub returns-clause-visits : goal.returns-clause-visits
returns-clause-visits c = λ k found denied same has s.
    let id = c.args.id in
    let a = c.args.a in
    let x = c.in-Eq.field-0 in
    let y = c.in-Eq.field-1 in
    let at : IsNodeAt k.nodes id (Not a) = subst (λ ns. IsNodeAt ns id (Not a)) (sym same) c.requires.at in
    let eq : IsNodeAt k.nodes a (Eq x y) = subst (λ ns. IsNodeAt ns a (Eq x y)) (sym same) (subst (IsNodeAt c.args.table.now a) c.in-Eq.is c.node.ensures.at) in
    visit_not k found denied id c.args.self.now _ a x y (node_at-is k.nodes id (Not a) at) (node_at-is k.nodes a (Eq x y) eq)
    (c.in_ok-deny.ensures.forced k found denied s (not_gives k found id has a at)) refl c.in_ok-push.ensures.items
