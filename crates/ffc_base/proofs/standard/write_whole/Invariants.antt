use Rattle.ffc_base.proofs.WrittenLemmas.{IsWritten}
use Rattle.ffc_base.proofs.standard.write_whole.Given as goal

abbrev pub invariant-loop : goal.invariant-loop
invariant-loop g l = IsWritten l.bytes l.left (g.W.Write.contents l.fn.writer) (g.W.Write.contents l.writer)
