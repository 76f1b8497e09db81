use Rattle.std.proofs.Common.{◌≡◌, ◌+◌, length, arith}
use Rattle.std.proofs.lemmas.List.{length_push}
use Rattle.std.proofs.lemmas.Result.{err_from_is_err_and}
use Rattle.ffc_cert.specs.Items.{many_at}
use Rattle.ffc_cert.proofs.LoopLemmas.{goes_on, ends, is_done}
use Rattle.ffc_cert.proofs.readable.many.Goals as goal

pub returns-in_err-item-clause-reads : goal.returns-in_err-item-clause-reads
returns-in_err-item-clause-reads g c =
    let p = err_from_is_err_and c.from_residual-in_err-item.result c.from_residual-in_err-item.ensures.1 in
    rw (p.1, p.2) (ends g.T.Readable.at c.loop.read.items c.args.count c.loop.counter c.loop.items (many_at g.T.Readable.at c.args.count c.args.items.now) c.in_err-item.field-0.0 c.loop-test.true c.in_err-item.ensures c.loop.invariant.0)

pub loop-preserved : goal.loop-preserved
loop-preserved g c =
    let pushed : length c.push.new.self.items ≡ c.loop.counter + 1 = rw c.in_ok-push.ensures.items (omega (arith, length_push c.loop.read.items c.in_ok-item.item, c.loop.invariant.1)) in
    (rw c.in_ok-push.ensures.items (goes_on g.T.Readable.at c.loop.read.items c.args.count c.loop.counter c.loop.items (many_at g.T.Readable.at c.args.count c.args.items.now) c.in_ok-item.item c.read.new.items c.loop-test.true c.in_ok-item.ensures c.loop.invariant.0), pushed)

pub returns-clause-reads : goal.returns-clause-reads
returns-clause-reads g c =
    rw c.from_vec.ensures (is_done g.T.Readable.at c.loop.read.items c.args.count c.loop.counter c.loop.items (many_at g.T.Readable.at c.args.count c.args.items.now) c.loop-test.false c.loop.invariant.0)
