use Rattle.std.proofs.Common.{[], ◌∷◌}
use Rattle.ffc_search.proofs.AboveLemmas.{stays_pushed}
use Rattle.ffc_search.proofs.branches.open_case.Goals as goal

pub returns-clause-above : goal.returns-clause-above
returns-clause-above g c = λ floor.
    stays_pushed floor c.args.stack.now c.push_within.new.self (c.in_ok-poly.poly ∷ []) c.in_ok-push_within.ensures.pushed
