use Rattle.std.proofs.Common.{◌≡◌, sym, ap, subst, Err}
use Rattle.ffc_base.specs.Metering.{total}
use Rattle.ffc_mono.specs.Orders.{graded_reverse_lex_cmp}
use Rattle.ffc_mono.proofs.LeadingLemmas.{graded_reverse_lex_is_graded}
use Rattle.ffc_line.specs.Lines.{polys_of}
use Rattle.ffc_ideal.specs.Answers.{AreBasisLines, IsWithinCompletion}
use Rattle.ffc_ideal.proofs.Answering.{basis_lines, within_completion, spent_is_not_memory}
use Rattle.ffc_ideal.proofs.completing.complete_generators.Goals as goal

pub returns-in-Ok-clause-lines : goal.returns-in-Ok-clause-lines
returns-in-Ok-clause-lines g c =
    basis_lines g.F.Field.ORDER graded_reverse_lex_cmp c.args.gens.now c.in_ok-basis.basis c.complete.new.self c.in_ok-basis.ensures c.in-Ok.ensures.stays c.lines-lines.ensures.lines

pub returns-in-Err-Spent-clause-stop : goal.returns-in-Err-Spent-clause-stop
returns-in-Err-Spent-clause-stop g c =
    let p = g.F.Field.ORDER in
    let lines = c.complete.new.self in
    let old = c.args.meter.now in
    let new = c.complete.new.meter in
    let same = sym c.into_lines.ensures.value in
    let spent : total new ≡ new.budget = c.in-Err-Spent.ensures.metered.1 (ap (λ stop. Err stop) c.in-Err-Spent.field-0-is) in (
      subst (AreBasisLines p graded_reverse_lex_cmp c.args.gens.now) same
          (basis_lines p graded_reverse_lex_cmp c.args.gens.now c.in_ok-basis.basis lines c.in_ok-basis.ensures c.in-Err-Spent.ensures.stays c.into_lines.ensures.lines),
      spent,
      subst (λ ls. IsWithinCompletion p old (polys_of ls)) same
          (within_completion p graded_reverse_lex_cmp graded_reverse_lex_is_graded (polys_of lines) old new c.in-Err-Spent.ensures.reductions spent
          (c.in-Err-Spent.ensures.bound (spent_is_not_memory c.in-Err-Spent.field-0 c.in-Err-Spent.field-0-is))),
    )
