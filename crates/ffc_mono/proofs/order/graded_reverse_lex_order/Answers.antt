use Rattle.ffc_mono.specs.OrderLaws.{graded_reverse_lex_words}
use Rattle.ffc_mono.proofs.order.graded_reverse_lex_order.Goals as goal

pub returns : goal.returns
returns c = graded_reverse_lex_words
