use Rattle.std.proofs.Common.{ℕ, Vec, Global}
use Rattle.std.proofs.lemmas.Result.{IfOk-weaker}
use Rattle.rows_checker.proofs.CheckLemmas.{valid_over}
use Rattle.rows_checker.proofs.checks.constants.Goals as goal

pub returns : goal.returns
returns c =
    let table = c.args.table.now in
    IfOk-weaker {X = Vec ℕ Global} _ _ _ (λ v is. valid_over table v.items c.args.in_force.now c.args.order c.len-nodes.ensures.valid c.requires.order c.requires.boolean is) c.constants_of.ensures
