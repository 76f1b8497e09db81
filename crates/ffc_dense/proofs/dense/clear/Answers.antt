use Rattle.std.proofs.Common.{◌≡◌, ℕ, ◌∙◌, arith}
use Rattle.std.proofs.Math.Nat.{zero-mod}
use Rattle.ffc_dense.proofs.DenseLemmas.{zero_more}
use Rattle.ffc_dense.proofs.dense.clear.Goals as goal

pub loop-number-preserved : goal.loop-number-preserved
loop-number-preserved g c =
    (c.loop-number.invariant.0, zero_more g.F.Field.value c.loop-number.coefficients.items c.loop-number.number c.of.result (c.of.ensures ∙ zero-mod g.F.Field.ORDER) c.loop-number.invariant.1)
