use Rattle.std.proofs.Common.{length, ap, arith}
use Rattle.ffc_mono.proofs.RowLemmas.{length-cut}
use Rattle.ffc_mono.proofs.row.MonoRow.len.Goals as goal

pub returns : goal.returns
returns c = omega (arith, length-cut 0 c.self.inside.marks.items c.self.inside.powers.items, ap length c.self.view_is)
