use Rattle.ffc_base.specs.Metering.{Takes}
use Rattle.ffc_zeroone.proofs.search.Puzzle.propagate.Given as goal

abbrev pub invariant-loop : goal.invariant-loop
invariant-loop l = Takes l.fn.meter l.meter
