use Rattle.std.proofs.Common.{◌≡◌, false}
use Rattle.bench.proofs.elaboration.drain.Given as goal

abbrev pub invariant-forms : goal.invariant-forms
invariant-forms l = l.lexer.finished ≡ false
