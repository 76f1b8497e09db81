use Rattle.std.proofs.Common.{◌*◌, ap₂}
use Rattle.ffc_combination.proofs.AttemptLemmas.{sized}
use Rattle.ffc_combination.proofs.attempts.units_for.Goals as goal

pub returns-clause-some : goal.returns-clause-some
returns-clause-some c =
    sized c.args.degree c.in_ok-columns.columns c.in_ok-columns.rows (2 * c.from.result * c.from-2.result) c.args.choice.now c.in_ok-columns.ensures.some
    (ap₂ (λ a b. 2 * a * b) c.from.ensures c.from-2.ensures)
