use Rattle.std.proofs.Common.{◌∙◌, arith}
use Rattle.ffc_cktree.proofs.RowLemmas.{nonzero_here, zero_here}
use Rattle.ffc_cktree.proofs.rows.are_zero.Goals as goal

pub returns-then-residue-ne0 : goal.returns-then-residue-ne0
returns-then-residue-ne0 g c =
    nonzero_here g.F.Field.value g.F.Field.ORDER c.args.row.now c.loop-coef.coef-index c.coef-item.result c.loop-coef-test.true c.coef-item.is
    (g.met.F.Field.below c.coef-item.result) (λ e. c.if-residue-ne0.true (c.residue.ensures.value ∙ e)) c.loop-coef.invariant

pub loop-coef-preserved : goal.loop-coef-preserved
loop-coef-preserved g c =
    zero_here g.F.Field.value g.F.Field.ORDER c.args.row.now c.loop-coef.coef-index c.coef-item.result c.loop-coef-test.true c.coef-item.is
    (omega (arith, g.met.F.Field.prime.least)) (omega (arith, c.residue.ensures.value, c.if-residue-ne0.false)) c.loop-coef.invariant
