use Rattle.ffc_check.specs.Judged.{judged_check}
use Rattle.ffc_trials.proofs.AnywhereLemmas.{right_anywhere}
use Rattle.ffc_trials.proofs.testing.is_accepted.Goals as goal

pub returns-in-Ok-clause-accepted : goal.returns-in-Ok-clause-accepted
returns-in-Ok-clause-accepted c _ = right_anywhere (judged_check c.args.check.now) c.args.entry.now 2 c.in-Ok.ensures.ok
