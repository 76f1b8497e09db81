use Rattle.std.proofs.Common.{subst, sym}
use Rattle.std.proofs.lemmas.List.{take_rest}
use Rattle.ffc_base.proofs.Counting.{on_err}
use Rattle.ffc_base.proofs.WrittenLemmas.{IsWritten, goes_on, stops, some_are_written}
use Rattle.ffc_base.proofs.standard.write_whole.Goals as goal

pub returns-in_err-count-clause-err : goal.returns-in_err-count-clause-err
returns-in_err-count-clause-err g c = on_err c.from_residual.result (stops _ _ _ _ _ c.loop.invariant c.in_err-count.ensures.err)

pub loop-preserved : goal.loop-preserved
loop-preserved g c =
    subst (λ rest. IsWritten c.args.bytes.now rest (g.W.Write.contents c.args.writer.now) (g.W.Write.contents c.write_some.new.writer)) (sym (take_rest c.loop.left.now c.in_ok-count.count))
    (goes_on _ _ _ _ _ _ c.loop.invariant c.in_ok-count.ensures.ok)

pub returns-clause-err : goal.returns-clause-err
returns-clause-err g c = some_are_written _ _ _ _ c.loop.invariant
