use Rattle.std.proofs.Common.{take, All}
use Rattle.ffc_echelon.specs.Vectors.{AreCoordinates}
use Rattle.ffc_linear.specs.Affine.{AreAffineForms}
use Rattle.ffc_linear.proofs.affine.affine_forms.Given as goal

abbrev pub invariant-loop-id : goal.invariant-loop-id
invariant-loop-id g l = record {
  forms : AreAffineForms g.F.Field.ORDER l.table l.constants (take l.id-index l.ids) l.forms.items;
  valid : All (AreCoordinates g.F.Field.ORDER) l.forms.items;
}
