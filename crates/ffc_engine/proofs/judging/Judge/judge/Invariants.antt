use Rattle.ffc_base.specs.Metering.{Takes}
use Rattle.ffc_engine.proofs.judging.Judge.judge.Given as goal

abbrev pub invariant-loop-field : goal.invariant-loop-field
invariant-loop-field l = Takes l.initial.meter l.meter
