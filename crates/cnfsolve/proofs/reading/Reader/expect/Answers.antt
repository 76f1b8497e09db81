use Rattle.std.proofs.Common.{rules}
use Rattle.cnfsolve.proofs.FreshLemmas.{fresh_after}
use Rattle.cnfsolve.proofs.reading.Reader.expect.Goals as goal

pub invariant_of-self-2 : goal.invariant_of-self-2
invariant_of-self-2 c = (search rules, fresh_after _ _ _ c.in_ok-push.ensures.items c.self.invariant.1 (search rules))
