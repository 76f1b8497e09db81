use Rattle.ffc_parts.proofs.GrowingLemmas.{put_makes}
use Rattle.ffc_parts.proofs.applying.put.Goals as goal

pub returns : goal.returns
returns c = put_makes c.args.table.now c.intern-put.new.self c.args.node c.intern-put.result c.len-before.ensures.valid c.len-after.ensures.valid c.intern-put.ensures.ok c.intern-put.ensures.full c.intern-put.ensures.err
