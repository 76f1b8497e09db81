use Rattle.std.proofs.Common.{◌*◌, length, take}
use Rattle.std.specs.List.{AllZip}
use Rattle.ffc_base.specs.declared.meter.Unit.TheVariants.{Reduction}
use Rattle.ffc_echelon.proofs.TrialLemmas.{IsTaken}
use Rattle.ffc_macaulay.specs.Solving.{IsValueIn}
use Rattle.ffc_macaulay.proofs.solving.values_in.Given as goal

abbrev pub invariant-loop-column : goal.invariant-loop-column
invariant-loop-column g l =
    record {
      values : AllZip (IsValueIn g.F.Field.ORDER (length l.matrix.unknowns.keys) l.matrix.multiples.items l.matrix.rows.items) (take l.column-index l.columns) l.values.items;
      taken : IsTaken Reduction (l.column-index * length l.matrix.unknowns.keys) l.fn.meter l.meter;
    }
