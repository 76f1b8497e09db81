use Rattle.std.proofs.Common.{◌*◌, take}
use Rattle.ffc_echelon.specs.Rests.{AreRests}
use Rattle.ffc_echelon.proofs.StepLemmas.{IsTakenWithin}
use Rattle.ffc_echelon.proofs.rests.rests_of.Given as goal

abbrev pub invariant-loop-place : goal.invariant-loop-place
invariant-loop-place g l = record {
  rests : AreRests g.F.Field.ORDER l.form (take l.place l.vectors) l.rests.items;
  units : IsTakenWithin (l.place * l.form.unknowns) l.fn.meter l.meter;
}
