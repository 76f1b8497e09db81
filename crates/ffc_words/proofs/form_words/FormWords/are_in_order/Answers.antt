use Rattle.std.proofs.Common.{subst}
use Rattle.std.specs.List.{AllPairs}
use Rattle.ffc_smt.specs.FaultLaws.{IsWordBefore}
use Rattle.ffc_words.proofs.OrderLemmas.{given_in_order}
use Rattle.ffc_words.proofs.form_words.FormWords.are_in_order.Goals as goal

pub returns : goal.returns
returns c = subst (AllPairs IsWordBefore) c.self.view_is (given_in_order c.self.inside.tokens.now c.self.inside.lexer.now c.self.invariant)
