use Rattle.std.proofs.Common.{◌≡◌, ◌<◌, ℕ, length, None, get_or, IfSome, sym, ap, ◌∙◌, subst, arith}
use Rattle.ffc_dense.proofs.TableLemmas.{dropped_none, dropped_kept, dropped_more, dropped_all}
use Rattle.ffc_dense.proofs.table.drop_from.Goals as goal

pub loop-slot-init : goal.loop-slot-init
loop-slot-init g c = dropped_none c.args.len c.args.kept.now.items

pub returns : goal.returns
returns g c = dropped_all c.args.len c.loop-slot.slot c.args.kept.now.items c.loop-slot.kept.items (omega (arith, c.loop-slot-test.false, c.len-slot-end.ensures, c.loop-slot.invariant.long, c.loop-slot.kept.ok)) c.loop-slot.invariant
