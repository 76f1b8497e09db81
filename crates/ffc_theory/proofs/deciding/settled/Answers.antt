use Rattle.std.proofs.lemmas.Result.{err_from_is_err_and}
use Rattle.ffc_check.specs.Judged.{judged_check}
use Rattle.ffc_trials.proofs.LimitLemmas.{stopped_by_memory, stopped_by_limit, none_large}
use Rattle.ffc_theory.proofs.BoundLemmas.{limit_beyond}
use Rattle.ffc_theory.proofs.deciding.settled.Goals as goal

pub returns-in_err-entry-clause-caused : goal.returns-in_err-entry-clause-caused
returns-in_err-entry-clause-caused c =
    let p = err_from_is_err_and c.from_residual.result c.from_residual.ensures.1 in
    rw (p.1, p.2) (stopped_by_memory (judged_check c.args.check.now) c.args.steps c.in_err-entry.field-0.0 c.in_err-entry.ensures.only)

pub returns-in_err-check_limits-clause-caused : goal.returns-in_err-check_limits-clause-caused
returns-in_err-check_limits-clause-caused c =
    let check = judged_check c.args.check.now in
    let large = none_large check c.args.steps c.small_span.result c.in_default.not-Some c.small_span.ensures.large in
    let p = err_from_is_err_and c.from_residual-in_err-check_limits.result c.from_residual-in_err-check_limits.ensures.1 in
    rw (p.1, p.2) (stopped_by_limit check c.args.steps c.in_err-check_limits.field-0.0 large c.in_err-check_limits.ensures.passed)

pub returns-in_err-check_limits-clause-beyond : goal.returns-in_err-check_limits-clause-beyond
returns-in_err-check_limits-clause-beyond c =
    let check = judged_check c.args.check.now in
    let p = err_from_is_err_and c.from_residual-in_err-check_limits.result c.from_residual-in_err-check_limits.ensures.1 in
    rw (p.1, p.2) (limit_beyond c.args.steps check c.in_err-check_limits.field-0.0 c.in_err-check_limits.ensures.passed)
