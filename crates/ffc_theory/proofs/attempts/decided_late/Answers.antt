use Rattle.ffc_check.specs.Judged.{judged_check}
use Rattle.ffc_theory.proofs.BoundLemmas.{no_field_beyond_late}
use Rattle.ffc_theory.proofs.attempts.decided_late.Goals as goal

pub returns-in_default-clause-beyond : goal.returns-in_default-clause-beyond
returns-in_default-clause-beyond c = λ _. no_field_beyond_late c.args.steps (judged_check c.args.check.now) c.field_of.result c.in_default.not-Some c.field_of.ensures.none
