use Rattle.std.proofs.Common.{arith}
use Rattle.std.proofs.lemmas.Result.{err_from_is_err_and}
use Rattle.ffc_cert.proofs.ScanLemmas.{goes, gives, gives_entry, stops, window_line}
use Rattle.ffc_cert.proofs.scanning.Scanner.take_whole.Goals as goal

pub returns-in_err-taken-clause-after : goal.returns-in_err-taken-clause-after
returns-in_err-taken-clause-after c =
    let s = c.args.self.now in
    let line = window_line s.gone s.start c.args.end c.args._fed.now.bytes c.args.window.now c.requires.window c.requires.ready.kept (omega (arith, c.requires.end)) in
    let taken = rw line at c.in_err-taken.ensures.taken in
    let p = err_from_is_err_and c.from_residual.result c.from_residual.ensures.1 in
    rw (p.1, p.2) (stops c.args._bits c.args.wanted c.args._fed.now.bytes s c.args.end c.requires.ready c.requires.whole c.requires.end c.in_err-taken.field-0.0 c.take_line.new.self taken)

pub returns-in-Some-clause-after : goal.returns-in-Some-clause-after
returns-in-Some-clause-after c =
    let s = c.args.self.now in
    let line = window_line s.gone s.start c.args.end c.args._fed.now.bytes c.args.window.now c.requires.window c.requires.ready.kept (omega (arith, c.requires.end)) in
    let next = rw (c.in-Some.is, line) at c.in_ok-taken.ensures.taken in
    let count = rw c.in-Some.is at c.in_ok-taken.ensures.counts in (
      gives_entry c.args._bits c.args.wanted c.args._fed.now.bytes s c.args.end c.requires.ready c.requires.whole c.requires.end c.in-Some.entry c.take_line.new.self next,
      (
        gives c.args._bits c.args.wanted c.args._fed.now.bytes s c.args.end c.requires.ready c.requires.whole c.requires.end c.in-Some.entry c.take_line.new.self next c.take_line.ensures.follows count,
        count,
      ),
    )

pub returns-in-None-clause-after : goal.returns-in-None-clause-after
returns-in-None-clause-after c =
    let s = c.args.self.now in
    let line = window_line s.gone s.start c.args.end c.args._fed.now.bytes c.args.window.now c.requires.window c.requires.ready.kept (omega (arith, c.requires.end)) in
    let next = rw (c.in-None.is, line) at c.in_ok-taken.ensures.taken in
    let count = rw c.in-None.is at c.in_ok-taken.ensures.counts in (
      goes c.args._bits c.args.wanted c.args._fed.now.bytes s c.args.end c.requires.ready c.requires.whole c.requires.end c.take_line.new.self next c.take_line.ensures.follows count,
      count,
    )
