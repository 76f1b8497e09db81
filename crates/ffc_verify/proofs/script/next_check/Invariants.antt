use Rattle.std.proofs.Common.{◌+◌, ◌-◌, length}
use Rattle.ffc_script.specs.Progress.{steps_of}
use Rattle.ffc_verify.proofs.WalkLemmas.{HasNoMore}
use Rattle.ffc_verify.proofs.script.next_check.Given as goal

abbrev pub invariant-commands : goal.invariant-commands
invariant-commands l = HasNoMore l.fn.reader l.reader

abbrev pub decreases-commands : goal.decreases-commands
decreases-commands l = length l.reader.text + 1 - length (steps_of l.reader)
