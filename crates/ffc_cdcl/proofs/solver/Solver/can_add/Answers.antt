use Rattle.std.proofs.Common.{◌<◌, get_or, refl, subst, ap, ◌∙◌, arith}
use Rattle.std.proofs.lemmas.List.{take_all}
use Rattle.std.proofs.lemmas.List.Elements.{All-more}
use Rattle.ffc_clause.specs.Clauses.{Literal}
use Rattle.ffc_cdcl.specs.State.{State, AllBelow}
use Rattle.ffc_cdcl.proofs.solver.Solver.can_add.Goals as goal

pub loop-literal-preserved : goal.loop-literal-preserved
loop-literal-preserved c =
    let nodes = c.args.self.now.nodes in
    let same = ap (λ (s : State). s.nodes) c.self.view_is in
    let literal = c.literal.view_is ∙ c.literal-item.is in
    let below : (get_or c.args.lits.now c.loop-literal.literal-index c.literal-item.result).1 < nodes = omega (arith, c.if-literal-self.false, same, ap (λ (l : Literal). l.1) literal) in
    All-more (λ (l : Literal). l.1 < nodes) c.args.lits.now c.loop-literal.literal-index c.literal-item.result c.loop-literal-test.true c.loop-literal.invariant below

pub returns : goal.returns
returns c =
    (λ _. subst (AllBelow c.args.self.now.nodes) (take_all c.loop-literal.literal-index c.args.lits.now c.loop-literal-test.false) c.loop-literal.invariant, λ _. refl)
