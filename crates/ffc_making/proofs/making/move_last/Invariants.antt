use Rattle.std.proofs.Common.{List, ℕ}
use Rattle.ffc_making.specs.Machine.{AreLast}
use Rattle.ffc_making.proofs.MoveLemmas.{IsMoving}
use Rattle.ffc_making.proofs.making.move_last.Given as goal

abbrev pub invariant-loop : goal.invariant-loop
invariant-loop l = (kept ids : List ℕ) → AreLast l.initial.stack.items kept ids l.count → IsMoving l.stack.items l.locals.items l.initial.locals.items kept ids l.counter
