use Rattle.ffc_encode.proofs.LimitLemmas.{only_memory}
use Rattle.ffc_encode.proofs.ExpandLemmas.{one_term, one_long}
use Rattle.ffc_encode.proofs.leaves.term.Goals as goal

pub memory-requires : goal.memory-requires
memory-requires g c =
    only_memory c.from_terms.result c.in-Err.stop c.in-Err.is c.from_terms.ensures.no_product
    (c.from_terms.ensures.short (one_long c.as_slice.result.now c.push.new.self.items c.new-terms.result.items (c.args.c, c.in_ok-m.m) c.as_slice.ensures.value c.in_ok-push.ensures.items c.new-terms.ensures.items))

pub returns-in-Ok : goal.returns-in-Ok
returns-in-Ok g c =
    one_term g.F.Field.value g.F.Field.ORDER c.in-Ok.one c.args.c c.in_ok-m.m c.args.powers.now c.as_slice.result.now c.push.new.self.items c.new-terms.result.items
    c.as_slice.ensures.value c.in_ok-push.ensures.items c.new-terms.ensures.items c.in_ok-m.ensures c.in-Ok.ensures.sum
