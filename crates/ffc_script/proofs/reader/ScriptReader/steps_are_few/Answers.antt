use Rattle.std.proofs.Common.{subst, length, ◌≤◌}
use Rattle.ffc_script.specs.Progress.{Progress, steps_of}
use Rattle.ffc_script.specs.Kept.{AreFirst}
use Rattle.ffc_script.proofs.CountLemmas.{steps_few}
use Rattle.ffc_script.proofs.reader.ScriptReader.steps_are_few.Goals as goal

pub returns : goal.returns
returns c =
    let now = c.args.self.now in
    let first : AreFirst now.text (steps_of now) = subst (λ (p : Progress). AreFirst p.text (steps_of p)) c.self.view_is c.self.invariant.first in
    steps_few now.text (steps_of now) first
