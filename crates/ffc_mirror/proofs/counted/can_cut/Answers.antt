use Rattle.std.proofs.Common.{rules, ℕ, IsTrue, ◌<◌}
use Rattle.ffc_mirror.proofs.CutLemmas.{cut_where_last_two_end}
use Rattle.ffc_mirror.proofs.counted.can_cut.Goals as goal

pub returns : goal.returns
returns c so = cut_where_last_two_end c.args.table.now c.args.len (search rules) (search rules)
