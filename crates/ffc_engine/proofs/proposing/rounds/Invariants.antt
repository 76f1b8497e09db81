use Rattle.ffc_base.specs.Metering.{Takes}
use Rattle.ffc_engine.proofs.proposing.rounds.Given as goal

abbrev pub invariant-loop : goal.invariant-loop
invariant-loop l = Takes l.initial.meter l.meter
