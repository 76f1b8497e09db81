use Rattle.std.proofs.Common.{◌≡◌, ℕ, ◌+◌, ◌≤◌, length, map}
use Rattle.ffc_base.specs.Metering.{more}
use Rattle.ffc_base.specs.declared.meter.Unit.TheVariants.{Reduction}
use Rattle.ffc_echelon.proofs.Reducing.{IsReducedBelow}
use Rattle.ffc_echelon.proofs.reduction.reduce_by.Given as goal

abbrev pub invariant-loop-column : goal.invariant-loop-column
invariant-loop-column g l =
    let value = g.F.Field.value in
    let p = g.F.Field.ORDER in
    record {
      long : length l.buffer.items ≡ length l.leads + 1;
      reduced : IsReducedBelow p l.rows l.vector l.column (map value l.buffer.items) (map (λ m. (m.0, value m.1)) l.multipliers.items);
      units : (n : ℕ) × (n ≤ l.column) × (l.meter ≡ more l.fn.meter Reduction n);
    }
