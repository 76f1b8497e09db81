use Rattle.ffc_terms.proofs.FirstLemmas.{order_from}
use Rattle.ffc_terms.proofs.SortTreeLemmas.{sort_placed}
use Rattle.ffc_terms.proofs.sorts.sort_at.Goals as goal

pub returns : goal.returns
returns c = λ tree rest at.
    sort_placed c.args.sorts.now c.args.words.now c.args.at tree rest c.sort_from.result (order_from c.args.words.now c.are_in_order.ensures) at c.sort_from.ensures
