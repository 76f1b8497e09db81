use Rattle.std.proofs.Common.{All, subst, ◌∙◌, refl}
use Rattle.std.proofs.lemmas.List.{take_all}
use Rattle.std.proofs.lemmas.List.Elements.{All-more}
use Rattle.ffc_cdcl.specs.Literals.{HasTrue}
use Rattle.ffc_cdcl.proofs.settled.makes_true.Goals as goal

pub loop-clause-preserved : goal.loop-clause-preserved
loop-clause-preserved c =
    All-more (HasTrue c.args.trail.now.literals) c.args.clauses.now c.loop-clause.clause-index c.clause-item.result c.loop-clause-test.true c.loop-clause.invariant
    (subst (HasTrue c.args.trail.now.literals) (c.as_slice.ensures ∙ c.clause-item.is) (c.if-not-has_true.ensures refl))

pub returns : goal.returns
returns c = λ _. subst (All (HasTrue c.args.trail.now.literals)) (take_all c.loop-clause.clause-index c.args.clauses.now c.loop-clause-test.false) c.loop-clause.invariant
