use Rattle.bench.proofs.BooleanNodes.{constant_is_boolean, negation_is_boolean}
use Rattle.bench.proofs.chains.negations.Goals as goal

pub loop-init : goal.loop-init
loop-init c = constant_is_boolean c.args.table.now c.intern.new.self 0 c.in_ok-last.last c.in_ok-last.ensures.ok

pub loop-preserved : goal.loop-preserved
loop-preserved c = negation_is_boolean c.loop.table c.intern-in-loop.new.self c.loop.last c.in_ok-last-2.last c.in_ok-last-2.ensures.ok
