use Rattle.std.proofs.Common.{arith}
use Rattle.ffc_search.proofs.AboveLemmas.{stays_popped}
use Rattle.ffc_search.proofs.branches.pop_above.Goals as goal

pub returns-then-saturating_sub-gt1 : goal.returns-then-saturating_sub-gt1
returns-then-saturating_sub-gt1 g c =
    stays_popped c.args.floor c.args.stack.now c.pop.new.self (omega (arith, c.saturating_sub.ensures, c.depth.ensures, c.if-saturating_sub-gt1.true)) c.pop.ensures.popped
