use Rattle.std.proofs.Common.{◌≡◌, map, take}
use Rattle.ffc_linear.specs.Refuting.{literals_of}
use Rattle.ffc_linear.proofs.refuting.literals_of.Given as goal

abbrev pub invariant-loop-i : goal.invariant-loop-i
invariant-loop-i g l = l.lits.items ≡ literals_of (take l.i l.equations) (map g.F.Field.value (take l.i l.coefficients))
