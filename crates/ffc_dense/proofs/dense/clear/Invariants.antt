use Rattle.std.proofs.Common.{◌≡◌, ◌<◌, ℕ, get_or}
use Rattle.ffc_poly.specs.Ordered.{values_of}
use Rattle.ffc_dense.proofs.dense.clear.Given as goal

abbrev pub invariant-loop-number : goal.invariant-loop-number
invariant-loop-number g l =
    (l.coefficients.len ≡ l.initial.coefficients.len) × ((n : ℕ) → n < l.number → get_or (values_of g.F.Field.value l.coefficients.items) n 0 ≡ 0)
