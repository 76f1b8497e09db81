use Rattle.std.proofs.Common.{[], arith}
use Rattle.cnfsolve.proofs.deciding.verdict_on.Goals as goal

pub returns-in-Ok-Refuted-clause-right : goal.returns-in-Ok-Refuted-clause-right
returns-in-Ok-Refuted-clause-right c =
    λ truth holds. c.refutations_are_sound.ensures truth c.args.formula.now.added [] c.in-Ok-Refuted.steps.items (rw c.in-Ok-Refuted.field-0-is at c.in-Ok-Refuted.ensures.refuted) holds (λ k d below. absurd (omega arith))
