use Rattle.std.proofs.Common.{◌∙◌, All, Contains, subst, refl}
use Rattle.std.proofs.lemmas.List.{take_all}
use Rattle.std.proofs.lemmas.List.Elements.{All-more}
use Rattle.ffc_clause.specs.Clauses.{Literal, negated}
use Rattle.ffc_circuit.proofs.truths.Truths.falsify.Goals as goal

pub loop-literal-preserved : goal.loop-literal-preserved
loop-literal-preserved c =
    let P = λ (literal : Literal). Contains c.args.trail.now (negated literal) in
    All-more P c.args.clause.now c.loop-literal.literal-index c.literal-item.result c.loop-literal-test.true c.loop-literal.invariant
    (subst P (c.literal.view_is ∙ c.literal-item.is) (subst (Contains c.args.trail.now) c.negated.ensures (c.if-not-is_at.ensures refl)))

pub returns : goal.returns
returns c = λ _. subst (All (λ (literal : Literal). Contains c.args.trail.now (negated literal))) (take_all c.loop-literal.literal-index c.args.clause.now c.loop-literal-test.false) c.loop-literal.invariant
