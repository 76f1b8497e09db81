use Rattle.std.proofs.Common.{subst}
use Rattle.ffc_script.specs.Progress.{Progress, steps_of}
use Rattle.ffc_script.specs.Kept.{AreFirst}
use Rattle.ffc_script.proofs.reader.ScriptReader.steps_come_first.Goals as goal

pub returns : goal.returns
returns c = subst (λ (p : Progress). AreFirst p.text (steps_of p)) c.self.view_is c.self.invariant.first
