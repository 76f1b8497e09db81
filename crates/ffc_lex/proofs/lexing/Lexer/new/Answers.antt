use Rattle.ffc_lex.proofs.KeptLemmas.{kept_first}
use Rattle.ffc_lex.proofs.lexing.Lexer.new.Goals as goal

pub invariant_of-result : goal.invariant_of-result
invariant_of-result c = kept_first c.new.result.bytes c.new-2.result.items c.new-4.result.items c.new-3.result c.new.ensures c.new-2.ensures.items c.new-3.ensures
