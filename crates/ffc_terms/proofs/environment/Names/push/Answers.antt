use Rattle.std.proofs.Common.{rules}
use Rattle.ffc_terms.proofs.PushLemmas.{index_pushed}
use Rattle.ffc_terms.proofs.environment.Names.push.Goals as goal

pub invariant_of-self-in-Ok : goal.invariant_of-self-in-Ok
invariant_of-self-in-Ok g c =
    rw c.in_ok-push.ensures.items
    (index_pushed c.self.inside.entries.items (record { name = c.args.name; value = c.args.value; hidden = c.copied-hidden.result }) c.self.inside.index c.set.new.index c.in_ok-key.key.items c.len-slot.result
    c.self.invariant (search rules) (search rules) (search rules) c.in-Ok.ensures.ok)
