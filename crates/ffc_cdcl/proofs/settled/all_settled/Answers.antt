use Rattle.std.proofs.Common.{All, subst, ◌∙◌, refl}
use Rattle.std.proofs.lemmas.List.{take_all}
use Rattle.std.proofs.lemmas.List.Elements.{All-more}
use Rattle.ffc_cdcl.specs.Settled.{IsSettled}
use Rattle.ffc_cdcl.proofs.settled.all_settled.Goals as goal

pub loop-clause-preserved : goal.loop-clause-preserved
loop-clause-preserved c =
    All-more (IsSettled c.args.trail.now) c.args.clauses.now c.loop-clause.clause-index c.clause-item.result c.loop-clause-test.true c.loop-clause.invariant
    (subst (IsSettled c.args.trail.now) (c.as_slice.ensures ∙ c.clause-item.is) (c.if-not-is_settled.ensures refl))

pub returns : goal.returns
returns c = λ _. subst (All (IsSettled c.args.trail.now)) (take_all c.loop-clause.clause-index c.args.clauses.now c.loop-clause-test.false) c.loop-clause.invariant
