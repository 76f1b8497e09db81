use Rattle.ffc_mono.proofs.RowLemmas.{start_at-suc}
use Rattle.ffc_mono.proofs.row.start_of.Goals as goal

pub returns-else-i-eq0 : goal.returns-else-i-eq0
returns-else-i-eq0 c = start_at-suc c.args.marks.now c.args.i c.if-i-eq0.false
