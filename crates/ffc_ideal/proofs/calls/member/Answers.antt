use Rattle.std.proofs.Common.{◌≡◌, sym, ap, ◌∙◌, subst, Err, IfNone, IfSome}
use Rattle.ffc_base.specs.Metering.{total}
use Rattle.ffc_mono.specs.Orders.{graded_reverse_lex_cmp}
use Rattle.ffc_mono.proofs.LeadingLemmas.{graded_reverse_lex_is_graded}
use Rattle.ffc_line.specs.Lines.{polys_of}
use Rattle.ffc_basis.specs.Reduction.{ArePartsAtMost, IsReduced, IsStopped}
use Rattle.ffc_basis.specs.Completed.{IsCompletion}
use Rattle.ffc_basis.specs.Units.{IsReductionBound}
use Rattle.ffc_ideal.specs.Answers.{AreBasisLines, ArePairsOf, IsWithinMembership}
use Rattle.ffc_ideal.proofs.Answering.{within_membership, pairs_of_closed, pairs_of_set_aside}
use Rattle.ffc_ideal.proofs.calls.member.Goals as goal
use Rattle.ffc_ideal.proofs.calls.member.Goals.{in-Closed, in-SetAside}

pub returns-in-Constant-clause-answer : goal.returns-in-Constant-clause-answer
returns-in-Constant-clause-answer g c =
    (c.in_ok-shown-in-Constant.ensures c.args.gens.now
    (subst (AreBasisLines g.F.Field.ORDER graded_reverse_lex_cmp c.args.gens.now) (sym c.into_lines.ensures.value) c.in_ok-basis.ensures.lines)).0

pub membership_by-requires-clause-pairs : goal.membership_by-requires-clause-pairs
membership_by-requires-clause-pairs g c =
    let p = g.F.Field.ORDER in
    let cmp = graded_reverse_lex_cmp in
    let made = c.in_ok-basis.field-0.basis in
    let gs = polys_of made in
    let same : c.into_lines-in-Ok.result.items ≡ made = c.into_lines-in-Ok.ensures.value ∙ c.in-Ok.ensures.unchanged in
    let completion : IsCompletion p cmp gs c.in_ok-basis.field-0.completion = c.in_ok-basis.ensures.completion in
    subst (λ ls. ArePairsOf p cmp (polys_of ls) c.match-completion.pairs) (sym same)
    (elim c.match-completion.branch [
      | in-Closed w ↦
          pairs_of_closed p cmp gs c.match-completion.pairs (w.pairs-is ∙ w.new-pairs.ensures) (subst (IsCompletion p cmp gs) w.in-Closed.is completion)
      | in-SetAside w ↦
          subst (ArePairsOf p cmp gs) (sym w.pairs-is) (pairs_of_set_aside p cmp gs w.in-SetAside.pairs (subst (IsCompletion p cmp gs) w.in-SetAside.is completion))
    ])

pub membership_by-requires-clause-at_most : goal.membership_by-requires-clause-at_most
membership_by-requires-clause-at_most g c =
    subst (λ ls. ArePartsAtMost g.F.Field.ORDER graded_reverse_lex_cmp (polys_of ls) c.args.poly.now c.in-Ok.reduced.parts.items)
    (sym (c.into_lines-in-Ok.ensures.value ∙ c.in-Ok.ensures.unchanged)) c.in-Ok.ensures.at_most

pub membership_by-requires-clause-reduced : goal.membership_by-requires-clause-reduced
membership_by-requires-clause-reduced g c =
    subst (λ ls. IfNone c.in-Ok.reduced.over (IsReduced g.F.Field.ORDER graded_reverse_lex_cmp (polys_of ls) c.in-Ok.reduced.rest))
    (sym (c.into_lines-in-Ok.ensures.value ∙ c.in-Ok.ensures.unchanged)) c.in-Ok.ensures.reduced

pub membership_by-requires-clause-over : goal.membership_by-requires-clause-over
membership_by-requires-clause-over g c =
    subst (λ ls. IfSome c.in-Ok.reduced.over (λ t. IsStopped g.F.Field.ORDER graded_reverse_lex_cmp (polys_of ls) c.in-Ok.reduced.rest c.in-Ok.reduced.parts.items t.0 t.1))
    (sym (c.into_lines-in-Ok.ensures.value ∙ c.in-Ok.ensures.unchanged)) c.in-Ok.ensures.over

pub returns-in_ok-membership_by-in-Ok-clause-answer : goal.returns-in_ok-membership_by-in-Ok-clause-answer
returns-in_ok-membership_by-in-Ok-clause-answer g c =
    c.in_ok-membership_by-in-Ok.ensures c.args.gens.now
    (subst (AreBasisLines g.F.Field.ORDER graded_reverse_lex_cmp c.args.gens.now) (sym (c.into_lines-in-Ok.ensures.value ∙ c.in-Ok.ensures.unchanged)) c.in_ok-basis.ensures.lines)

pub returns-in-Err-Spent-clause-stop : goal.returns-in-Err-Spent-clause-stop
returns-in-Err-Spent-clause-stop g c =
    let p = g.F.Field.ORDER in
    let cmp = graded_reverse_lex_cmp in
    let made = c.in_ok-basis.field-0.basis in
    let poly = c.args.poly.now in
    let old = c.args.meter.now in
    let mid = c.complete_generators.new.meter in
    let new = c.reduce.new.meter in
    let same : made ≡ c.into_lines-in-Err-Spent.result.items = sym (c.into_lines-in-Err-Spent.ensures.value ∙ c.in-Err-Spent.ensures.unchanged) in
    let more : IsReductionBound p cmp (polys_of made) poly mid new =
    c.in-Err-Spent.ensures.bound in
    let spent : total new ≡ new.budget = c.in-Err-Spent.ensures.metered.1 (ap (λ stop. Err stop) c.in-Err-Spent.field-0-is) in (
      subst (AreBasisLines p cmp c.args.gens.now) same c.in_ok-basis.ensures.lines,
      spent,
      subst (λ ls. IsWithinMembership p poly old (polys_of ls)) same
          (within_membership p cmp graded_reverse_lex_is_graded (polys_of made) poly old mid new c.in_ok-basis.ensures.reductions c.in-Err-Spent.ensures.reductions spent c.in_ok-basis.ensures.bound more),
    )
