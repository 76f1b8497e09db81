use Rattle.std.proofs.Common.{◌≡◌, ℕ, ◌%◌, ◌<◌, length, map}
use Rattle.ffc_uni.specs.Univariate.{coefficient_at, times}
use Rattle.ffc_uni.proofs.row.append_square.Given as goal

abbrev pub invariant-loop-place : goal.invariant-loop-place
invariant-loop-place g l =
    let value = g.F.Field.value in
    record {
      long : length l.out.items ≡ l.place;
      so_far :
          (k : ℕ) → k < l.place
          → coefficient_at (map value l.out.items) k ≡ coefficient_at (times (map value l.a) (map value l.a)) k % g.F.Field.ORDER;
    }
