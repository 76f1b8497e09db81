use Rattle.std.proofs.Common.{ℕ, ◌+◌, ◌*◌, ◌≤◌, length}
use Rattle.ffc_uni.specs.Units.{IsAtMost, IsChained}
use Rattle.ffc_uni.specs.Univariate.{SameUnivariate, multiple}
use Rattle.ffc_roots.specs.Parts.{AreRising, joined, splits_in, splits_of, weight_of}
use Rattle.ffc_roots.specs.Separation.{AreSeparated}
use Rattle.ffc_roots.proofs.split.split.Given as goal

abbrev pub invariant-loop-f : goal.invariant-loop-f
invariant-loop-f g l =
    let p = g.F.Field.ORDER in
    record {
      product : (c : ℕ) × SameUnivariate p l.product (multiple c (joined p l.roots.items l.pending.items));
      rising : AreRising p 0 l.roots.items;
      units : (bound : ℕ) → AreSeparated p l.product bound → (k : ℕ) × (k + splits_in l.pending.items ≤ splits_of (length l.product)) × IsAtMost (128 * (bound * k)) l.fn.meter l.meter;
      chained : IsChained l.fn.meter l.meter;
    }

abbrev pub decreases-loop-f : goal.decreases-loop-f
decreases-loop-f g l = weight_of l.pending.items
