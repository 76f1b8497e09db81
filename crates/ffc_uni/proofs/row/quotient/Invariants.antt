use Rattle.std.proofs.Common.{◌≡◌, ℕ, ◌+◌, ◌-◌, ◌%◌, ◌<◌, ◌≤◌, length, map, drop}
use Rattle.ffc_uni.specs.Rows.{shifted}
use Rattle.ffc_uni.specs.Univariate.{coefficient_at, times}
use Rattle.ffc_uni.proofs.row.quotient.Given as goal

abbrev pub invariant-loop-place : goal.invariant-loop-place
invariant-loop-place g l =
    let value = g.F.Field.value in
    let p = g.F.Field.ORDER in
    record {
      long : length l.quotient.items ≡ length l.row - (length l.by - 1);
      cancels :
          (j : ℕ) → l.place ≤ j → j < length l.row - (length l.by - 1)
          → coefficient_at (shifted j (times (drop j (map value l.quotient.items)) (map value l.by))) (j + (length l.by - 1)) % p
          ≡ coefficient_at (map value l.row) (j + (length l.by - 1)) % p;
    }
