use Rattle.std.proofs.Common.{arith}
use Rattle.ffc_search.proofs.AboveLemmas.{stays_both, stays_popped, comes_down}
use Rattle.ffc_search.proofs.branches.pop_to.Goals as goal

pub loop-stack-preserved : goal.loop-stack-preserved
loop-stack-preserved g c =
    stays_both c.args.floor c.args.stack.now c.loop-stack.stack c.pop.new.self c.loop-stack.invariant
    (stays_popped c.args.floor c.loop-stack.stack c.pop.new.self (omega (arith, c.depth.ensures, c.loop-stack-test.true)) c.pop.ensures.popped)

pub returns : goal.returns
returns g c =
    comes_down c.args.floor c.args.stack.now c.loop-stack.stack (omega (arith, c.depth.ensures, c.loop-stack-test.false)) c.loop-stack.invariant
