use Rattle.std.proofs.Common.{◌≡◌, ◌<◌, ◌≤◌, ℕ, get_or}
use Rattle.ffc_poly.specs.Ordered.{values_of}
use Rattle.ffc_dense.proofs.dense.first_nonzero.Given as goal

abbrev pub invariant-loop-place : goal.invariant-loop-place
invariant-loop-place g l =
    (l.from ≤ l.place) × ((j : ℕ) → l.from ≤ j → j < l.place → get_or (values_of g.F.Field.value l.coefficients) (get_or l.columns.1 j 0) 0 ≡ 0)
