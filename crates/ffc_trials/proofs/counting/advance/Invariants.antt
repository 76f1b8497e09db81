use Rattle.std.proofs.Common.{◌≡◌, drop}
use Rattle.ffc_trials.specs.Counting.{advanced}
use Rattle.ffc_trials.proofs.counting.advance.Given as goal

abbrev pub invariant-loop-constant : goal.invariant-loop-constant
invariant-loop-constant l = advanced l.table (drop l.constant-index l.constants) l.values ≡ advanced l.table l.constants l.initial.values
