use Rattle.ffc_poly.specs.Tails.{IsAlone}
use Rattle.ffc_poly.proofs.tails.rival_of.Given as goal

abbrev pub invariant-loop-j : goal.invariant-loop-j
invariant-loop-j g l = IsAlone l.tails l.j l.i
