use Rattle.std.proofs.Common.{◌≡◌, take}
use Rattle.ffc_single.specs.Univariate.{AreFormsOf}
use Rattle.ffc_single.proofs.univariate.differences.Given as goal

abbrev pub invariant-loop-id : goal.invariant-loop-id
invariant-loop-id g l = record {
  of_table : l.polynomials ≡ l.table;
  forms : AreFormsOf g.F.Field.ORDER l.table l.variable (take l.id-index l.ids) l.forms.items;
}
