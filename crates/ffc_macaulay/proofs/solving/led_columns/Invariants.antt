use Rattle.std.proofs.Common.{take}
use Rattle.std.specs.List.{AllZip}
use Rattle.ffc_macaulay.specs.Solving.{IsLed}
use Rattle.ffc_macaulay.proofs.solving.led_columns.Given as goal

abbrev pub invariant-loop-variable : goal.invariant-loop-variable
invariant-loop-variable g l = AllZip (IsLed l.unknowns.keys l.form.kept) (take l.variable-index l.variables) l.columns.items
