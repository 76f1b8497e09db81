use Rattle.std.proofs.Common.{ℕ, ◌*◌, ◌<◌}
use Rattle.ffc_uni.specs.Units.{IsAtMost}
use Rattle.ffc_roots.specs.Separation.{SeparatesNone}
use Rattle.ffc_roots.proofs.split.part.Given as goal

abbrev pub invariant-loop-n : goal.invariant-loop-n
invariant-loop-n g l = record {
  tried : (c : ℕ) → c < l.n → SeparatesNone g.F.Field.ORDER l.f c;
  units : IsAtMost (128 * l.n) l.fn.meter l.meter;
}
