use Rattle.std.proofs.Common.{◌≡◌, false}
use Rattle.ffc_lex.proofs.lexing.tests.bytes_held.Given as goal

abbrev pub invariant-pieces : goal.invariant-pieces
invariant-pieces l = l.lexer.finished ≡ false
