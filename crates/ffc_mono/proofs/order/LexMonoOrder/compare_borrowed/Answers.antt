use Rattle.std.proofs.Common.{◌≡◌, sym, ap₂, ◌∙◌, subst}
use Rattle.ffc_mono.specs.Orders.{lex_cmp, IsLexGreater, AnswersBy}
use Rattle.ffc_mono.specs.OrderLaws.{lex_words}
use Rattle.ffc_mono.proofs.order.LexMonoOrder.compare_borrowed.Goals as goal

pub returns-clause-words : goal.returns-clause-words
returns-clause-words c =
    let answer : c.first_difference.result ≡ lex_cmp c.args.a.powers.now c.args.b.powers.now =
    c.first_difference.ensures ∙ ap₂ lex_cmp c.pairs.ensures.value c.pairs-2.ensures.value in
    subst (AnswersBy IsLexGreater c.args.a.powers.now c.args.b.powers.now) (sym answer)
    (lex_words c.args.a.powers.now c.args.b.powers.now c.pairs.ensures.monomial c.pairs-2.ensures.monomial)
