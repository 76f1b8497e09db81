use Rattle.std.proofs.Common.{take}
use Rattle.std.specs.List.{AllByRecursion}
use Rattle.ffc_cert.specs.Ranges.{IsLine}
use Rattle.ffc_casetree.proofs.fitting.are_lines.Given as goal

abbrev pub invariant-loop-line : goal.invariant-loop-line
invariant-loop-line l = AllByRecursion IsLine (take l.line-index l.lines)
