use Rattle.std.proofs.Common.{◌≡◌, sym, ap₂, ◌∙◌, subst}
use Rattle.ffc_mono.specs.Orders.{graded_reverse_lex_cmp, reverse_lex_cmp, IsGradedReverseLexGreater, AnswersBy}
use Rattle.ffc_mono.specs.OrderLaws.{graded_reverse_lex_words}
use Rattle.ffc_mono.proofs.OrderLemmas.{graded_when_level}
use Rattle.ffc_mono.proofs.order.GradedReverseLexMonoOrder.compare_borrowed.Goals as goal

pub returns-clause-words : goal.returns-clause-words
returns-clause-words c =
    let a = c.args.a.powers.now in
    let b = c.args.b.powers.now in
    let level : graded_reverse_lex_cmp a b ≡ reverse_lex_cmp a b =
    graded_when_level a b _ _ c.cmp-by_degree.result c.cmp-by_degree.ensures (sym c.if-is_ne.ensures) c.degree.ensures.value c.degree-2.ensures.value in
    let answer : c.last_difference.result ≡ graded_reverse_lex_cmp a b =
    c.last_difference.ensures ∙ ap₂ reverse_lex_cmp c.pairs.ensures.value c.pairs-2.ensures.value ∙ sym level in
    subst (AnswersBy IsGradedReverseLexGreater a b) (sym answer)
    (graded_reverse_lex_words a b c.pairs.ensures.monomial c.pairs-2.ensures.monomial)
