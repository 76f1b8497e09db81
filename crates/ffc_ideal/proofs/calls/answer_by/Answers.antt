use Rattle.std.proofs.Common.{subst}
use Rattle.ffc_mono.specs.Orders.{graded_reverse_lex_cmp}
use Rattle.ffc_mono.specs.OrderLaws.{graded_reverse_lex_laws}
use Rattle.ffc_line.specs.Lines.{polys_of}
use Rattle.ffc_basis.specs.Completed.{IsCompletion}
use Rattle.ffc_ideal.specs.Answers.{HasNoConstant}
use Rattle.ffc_ideal.proofs.Answering.{free}
use Rattle.ffc_ideal.proofs.calls.answer_by.Goals as goal

pub returns-in-None : goal.returns-in-None
returns-in-None g c = λ gens basis.
    let p = g.F.Field.ORDER in
    let lines = c.args.lines.items in
    free p g.met.F.Field.prime graded_reverse_lex_cmp graded_reverse_lex_laws gens lines basis c.requires.lists
    (subst (IsCompletion p graded_reverse_lex_cmp (polys_of lines)) c.in-Closed.is c.requires.completion) (subst (λ ls. HasNoConstant p (polys_of ls)) c.as_slice.ensures.value c.in-None.ensures.none)
