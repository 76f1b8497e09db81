use Rattle.std.proofs.Common.{◌≡◌, take}
use Rattle.ffc_macaulay.specs.Matrix.{multiples_from}
use Rattle.ffc_macaulay.proofs.multiples.multiples.Given as goal

abbrev pub invariant-loop-generator : goal.invariant-loop-generator
invariant-loop-generator l = l.found.items ≡ multiples_from l.degree l.variables 0 (take l.generator l.degrees)
