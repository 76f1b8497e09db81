use Rattle.std.proofs.Common.{◌≤◌, subst}
use Rattle.std.proofs.lemmas.List.Elements.{All-more}
use Rattle.ffc_cdcl.proofs.solver.resting_on.Goals as goal

pub loop-k-preserved : goal.loop-k-preserved
loop-k-preserved c =
    All-more (λ x. x.base ≤ c.args.base) c.args.learned.now c.loop-k.k c.index-learned-k.result c.loop-k-test.true c.loop-k.invariant
    (subst (λ x. x.base ≤ c.args.base) c.index-learned-k.is c.if-clause-base.false)
