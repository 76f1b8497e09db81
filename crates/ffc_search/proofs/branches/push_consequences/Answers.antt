use Rattle.ffc_search.proofs.AboveLemmas.{stays_pushed}
use Rattle.ffc_search.proofs.branches.push_consequences.Goals as goal

pub returns-clause-above : goal.returns-clause-above
returns-clause-above g c = λ floor.
    stays_pushed floor c.args.stack.now c.push_within.new.self c.args.polys.now c.in_ok-push_within.ensures.pushed
