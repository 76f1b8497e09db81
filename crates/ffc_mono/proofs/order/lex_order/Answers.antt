use Rattle.ffc_mono.specs.OrderLaws.{lex_words}
use Rattle.ffc_mono.proofs.order.lex_order.Goals as goal

pub returns : goal.returns
returns c = lex_words
