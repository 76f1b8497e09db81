use Rattle.ffc_ckpoly.proofs.MultipleLemmas.{parts_inside}
use Rattle.ffc_ckpoly.proofs.uses.list_made.Goals as goal

pub is_made-requires : goal.is_made-requires
is_made-requires c = parts_inside c.args.table.now c.args.id c.node.result.now c.node.ensures.valid c.node.ensures.at
