use Rattle.std.proofs.Common.{take}
use Rattle.std.specs.List.{AllByRecursion}
use Rattle.ffc_cert.specs.Ranges.{IsMultiple}
use Rattle.ffc_casetree.proofs.fitting.are_multiples.Given as goal

abbrev pub invariant-loop-multiple : goal.invariant-loop-multiple
invariant-loop-multiple l = AllByRecursion IsMultiple (take l.multiple-index l.multiples)
