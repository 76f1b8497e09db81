use Rattle.std.proofs.Common.{◌≡◌, ℕ, ◌+◌, ◌%◌, ◌<◌, length, map}
use Rattle.ffc_field.specs.Modular.{sub_mod}
use Rattle.ffc_uni.specs.Univariate.{coefficient_at, times}
use Rattle.ffc_uni.proofs.row.remainder.Given as goal

abbrev pub invariant-loop-place : goal.invariant-loop-place
invariant-loop-place g l =
    let value = g.F.Field.value in
    let p = g.F.Field.ORDER in
    record {
      long : length l.out.items ≡ l.place;
      left :
          (k : ℕ) → k < l.place
          → coefficient_at (map value l.out.items) k
          ≡ sub_mod p (coefficient_at (map value l.row) k) (coefficient_at (times (map value l.quotient) (map value l.by)) k % p);
    }
