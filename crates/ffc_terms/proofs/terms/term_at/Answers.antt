use Rattle.ffc_terms.proofs.AnswerLemmas.{term_answered}
use Rattle.ffc_terms.proofs.FirstLemmas.{order_from}
use Rattle.ffc_terms.proofs.terms.term_at.Goals as goal

pub returns : goal.returns
returns c = λ nodes scope tree rest is here.
    term_answered c.args.limit nodes c.args.symbols.now scope is c.args.locals c.args.words.now c.args.at tree rest here (order_from c.args.words.now c.are_in_order.ensures) c.term_from.result c.term_from.ensures
