use Rattle.std.proofs.Common.{sym, subst}
use Rattle.ffc_mono.specs.Orders.{graded_reverse_lex_cmp}
use Rattle.ffc_ideal.specs.Answers.{AreBasisLines}
use Rattle.ffc_ideal.proofs.calls.closed_or_free.Goals as goal

pub returns-clause-answer : goal.returns-clause-answer
returns-clause-answer g c =
    c.in_ok-answer_by.ensures c.args.gens.now
    (subst (AreBasisLines g.F.Field.ORDER graded_reverse_lex_cmp c.args.gens.now) (sym c.into_lines.ensures.value) c.in_ok-basis.ensures.lines)
