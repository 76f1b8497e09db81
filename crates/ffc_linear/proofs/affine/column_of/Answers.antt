use Rattle.std.proofs.Common.{sym}
use Rattle.ffc_linear.proofs.ColumnLemmas.{column_found, column_missed}
use Rattle.ffc_linear.proofs.affine.column_of.Goals as goal

pub returns-in-Ok : goal.returns-in-Ok
returns-in-Ok c = sym (column_found c.args.constants.now c.args.x c.in-Ok.place c.requires c.in-Ok.ensures.position)

pub returns-in-Err : goal.returns-in-Err
returns-in-Err c = sym (column_missed c.args.constants.now c.args.x c.in-Err.field-0 c.requires c.in-Err.ensures.position)
