use Rattle.std.proofs.Common.{◌≡◌, ◌+◌, ◌*◌, ◌^◌, ◌≤◌, map, drop}
use Rattle.ffc_uni.specs.Rows.{shifted}
use Rattle.ffc_uni.specs.Univariate.{coefficient_at, times}
use Rattle.ffc_uni.proofs.coefficient.coefficient_from.Given as goal

abbrev pub invariant-loop-i : goal.invariant-loop-i
invariant-loop-i g l =
    let a = map g.F.Field.value l.a in
    let b = map g.F.Field.value l.b in
    record {
      sum :
          l.low + 2 ^ 64 * l.high + coefficient_at (shifted l.i (times (drop l.i a) b)) l.place
          ≡ coefficient_at (shifted l.from (times (drop l.from a) b)) l.place;
      top : l.i ≤ l.place + 1 + l.from;
      low : l.low + l.from * 18446744073709551615 ≤ l.i * 18446744073709551615;
      high : l.high + l.from * 18446744073709551615 ≤ l.i * 18446744073709551615;
    }
