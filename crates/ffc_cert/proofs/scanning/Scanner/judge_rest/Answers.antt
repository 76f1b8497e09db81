use Rattle.std.proofs.Common.{◌-◌, ◌∙◌, sym, refl}
use Rattle.std.proofs.lemmas.List.{take_rest}
use Rattle.ffc_cert.proofs.RestLemmas.{never_ok}
use Rattle.ffc_cert.proofs.ScanLemmas.{too_long, over, waits, window_rest}
use Rattle.ffc_cert.proofs.scanning.Scanner.judge_rest.Goals as goal

pub unreachable-requires : goal.unreachable-requires
unreachable-requires c =
    never_ok c.args.wanted c.args.self.now.progress c.take_line.new.self _ c.in-Ok.field-0 c.if-rest-gt-MAX_BYTES.true c.in-Ok.ensures.taken

pub returns-then-rest-gt-MAX_BYTES-clause-after : goal.returns-then-rest-gt-MAX_BYTES-clause-after
returns-then-rest-gt-MAX_BYTES-clause-after c =
    let s = c.args.self.now in
    let whole = take_rest c.args.window.now (s.start - s.gone) ∙ window_rest s.gone s.start c.args._fed.now.bytes c.args.window.now c.requires.window c.requires.ready.kept in
    let long = rw whole at c.if-rest-gt-MAX_BYTES.true in
    let taken = rw whole at c.in-Err.ensures.taken in
    too_long c.args._bits c.args.wanted c.args._fed.now.bytes s c.requires.ready c.requires.unended c.in-Err.stop c.take_line.new.self long taken

pub returns-then-is_over-clause-after : goal.returns-then-is_over-clause-after
returns-then-is_over-clause-after c =
    let s = c.args.self.now in
    let whole = take_rest c.args.window.now (s.start - s.gone) ∙ window_rest s.gone s.start c.args._fed.now.bytes c.args.window.now c.requires.window c.requires.ready.kept in
    let answer = rw whole at c.is_over.ensures in
    rw c.fault.ensures (over c.args._bits c.args.wanted c.args._fed.now.bytes s c.requires.ready c.requires.unended (sym answer ∙ c.if-is_over.true))

pub returns-clause-after : goal.returns-clause-after
returns-clause-after c =
    let s = c.args.self.now in
    let whole = take_rest c.args.window.now (s.start - s.gone) ∙ window_rest s.gone s.start c.args._fed.now.bytes c.args.window.now c.requires.window c.requires.ready.kept in
    let few = rw whole at c.if-rest-gt-MAX_BYTES.false in
    let answer = rw whole at c.is_over.ensures in
    let found = waits c.args._bits c.args.wanted c.args._fed.now.bytes s c.requires.ready c.requires.unended few (sym answer ∙ c.if-is_over.false) in
    rw c.requires.window.size (found.0, (found.1, refl))
