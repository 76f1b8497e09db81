use Rattle.std.proofs.lemmas.Result.{err_from_is_err_and}
use Rattle.ffc_check.specs.Judged.{judged_check}
use Rattle.ffc_trials.proofs.LimitLemmas.{memory_caused}
use Rattle.ffc_theory.proofs.deciding.Session.decide.Goals as goal

pub returns-in_err-cone-clause-caused : goal.returns-in_err-cone-clause-caused
returns-in_err-cone-clause-caused c = let p = err_from_is_err_and c.from_residual.result c.from_residual.ensures.1 in rw (p.1, p.2) (memory_caused (judged_check c.args.check.now) c.args.steps)
