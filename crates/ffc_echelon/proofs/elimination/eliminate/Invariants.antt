use Rattle.std.proofs.Common.{◌≡◌, ℕ, ◌*◌, ◌≤◌, length}
use Rattle.ffc_base.specs.Metering.{more}
use Rattle.ffc_base.specs.declared.meter.Unit.TheVariants.{Reduction}
use Rattle.ffc_echelon.specs.Progress.{IsFormOfFirst}
use Rattle.ffc_echelon.proofs.elimination.eliminate.Given as goal

abbrev pub invariant-loop-number : goal.invariant-loop-number
invariant-loop-number g l =
    record {
      long : length l.leads.items ≡ l.unknowns;
      form : IsFormOfFirst g.F.Field.ORDER l.unknowns l.inputs l.number l.rows.items l.leads.items;
      units : (n : ℕ) × (n ≤ l.number * l.unknowns) × (l.meter ≡ more l.fn.meter Reduction n);
    }
