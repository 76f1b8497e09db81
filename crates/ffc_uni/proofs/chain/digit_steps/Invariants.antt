use Rattle.std.proofs.Common.{◌<◌}
use Rattle.ffc_uni.proofs.ReachedLemmas.{IsReached}
use Rattle.ffc_uni.proofs.chain.digit_steps.Given as goal

abbrev pub invariant-loop-place : goal.invariant-loop-place
invariant-loop-place g l = (l.place < 64) × IsReached g.F.Field.ORDER l.f l.place l.steps l.fn.meter l.meter

abbrev pub decreases-loop-place : goal.decreases-loop-place
decreases-loop-place g l = l.place
