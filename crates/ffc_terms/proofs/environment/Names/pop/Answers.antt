use Rattle.ffc_terms.proofs.PushLemmas.{index_popped}
use Rattle.ffc_terms.proofs.environment.Names.pop.Goals as goal

pub invariant_of-self-2 : goal.invariant_of-self-2
invariant_of-self-2 g c =
    index_popped c.pop.new.self.items c.in_ok-last.last c.self.inside.index c.set_back.new.index
    (rw c.in_ok-last.ensures.items at c.self.invariant)
    (rw c.deref.ensures.value at c.set_back.ensures)
