use Rattle.cnfsolve.specs.Answers.{AreRight}
use Rattle.cnfsolve.proofs.deciding.answers.Given as goal

abbrev pub invariant-loop-formula : goal.invariant-loop-formula
invariant-loop-formula l = AreRight l.budget l.yielded l.answers.items
