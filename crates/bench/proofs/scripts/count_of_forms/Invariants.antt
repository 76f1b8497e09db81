use Rattle.std.proofs.Common.{◌≡◌, false}
use Rattle.bench.proofs.scripts.count_of_forms.Given as goal

abbrev pub invariant-pieces : goal.invariant-pieces
invariant-pieces l = l.lexer.finished ≡ false
