use Rattle.std.proofs.Common.{◌<◌, length}
use Rattle.ffc_terms.proofs.PushLemmas.{cut_by_one}
use Rattle.ffc_terms.proofs.environment.Names.cut.Goals as goal

pub loop-self-preserved-in-loop-self : goal.loop-self-preserved-in-loop-self
loop-self-preserved-in-loop-self g c =
    let more : c.args.len < length c.loop-self.self = rw c.len.ensures at c.loop-self-test.true in
    cut_by_one c.pop.result (λ last. (last.0.items, last.1)) c.args.self.now c.loop-self.self c.pop.new.self c.args.len c.pop.ensures.some c.pop.ensures.none more c.loop-self.invariant
