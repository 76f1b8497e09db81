use Rattle.std.proofs.Common.{sym, arith}
use Rattle.ffc_check.proofs.ArenaLemmas.{last_end-is}
use Rattle.ffc_check.proofs.arena.last_end.Goals as goal

pub returns-else-count-eq0 : goal.returns-else-count-eq0
returns-else-count-eq0 c = sym (last_end-is 0 c.args.ends.now (omega (arith, c.if-count-eq0.false)))
