use Rattle.std.proofs.Common.{◌≡◌, ◌<◌, length, None, Some, get_or-set_same, refl, arith}
use Rattle.ffc_dense.proofs.table.put.Goals as goal

pub returns-clause-at : goal.returns-clause-at
returns-clause-at g c =
    let mid = c.extend.new.kept.items in
    (c.args.multiple, get_or-set_same mid c.args.slot (Some c.args.multiple) None (omega (arith, c.in_ok-extend.ensures.place, c.extend.new.kept.ok)), refl, refl)
