use Rattle.std.proofs.Common.{◌≡◌, false}
use Rattle.bench.proofs.elaboration.take_pieces.Given as goal

abbrev pub invariant-pieces : goal.invariant-pieces
invariant-pieces l = l.lexer.finished ≡ false
