use Rattle.std.proofs.Common.{◌∙◌}
use Rattle.ffc_elab.proofs.MakingLemmas.{grown_cut, grown_front}
use Rattle.ffc_elab.proofs.asked_nodes.make_all.Goals as goal

pub truncate-requires : goal.truncate-requires
truncate-requires c =
    let t = c.requires in
    grown_cut c.args.table.now c.make_each.new.table c.len-before.result c.len-before.ensures.valid (c.in-Err.ensures t.0 t.1).grows c.len-before.ensures.count

pub returns-in-Err : goal.returns-in-Err
returns-in-Err c = λ asked h.
    let left = c.in-Err.ensures asked h in
    record { full = left.full; same = c.truncate.ensures ∙ grown_front c.args.table.now c.make_each.new.table c.len-before.result left.grows c.len-before.ensures.count }
