use Rattle.std.proofs.Common.{◌+◌, Some, None, cond, option_map, ap, ◌∙◌}
use Rattle.std.proofs.lemmas.Option.{slice_get_within}
use Rattle.std.proofs.lemmas.List.Elements.{All-from_recursion}
use Rattle.ffc_rules.specs.Entries.{breaks}
use Rattle.ffc_rules.proofs.CaseLemmas.{are_listed}
use Rattle.ffc_check.specs.Judged.{judged_check}
use Rattle.ffc_check.proofs.AnswerLemmas.{names_broken, other_count, misfit_named, truth_named}
use Rattle.ffc_check.proofs.values.check_values.Goals as goal

pub returns-then-pairs-check : goal.returns-then-pairs-check
returns-then-pairs-check c =
    names_broken c.breaks.result 1 c.args.line _ c.breaks.ensures (other_count (judged_check c.args.check.now) c.args.pairs.now c.args.line c.if-pairs-check.true)

pub first_misfit-requires-clause-within : goal.first_misfit-requires-clause-within
first_misfit-requires-clause-within c k d inside =
    let here = c.requires.valid.constants k d inside in slice_get_within c.args.check.now.table.now _ here.0 here.1

pub makes_true-requires-clause-values : goal.makes_true-requires-clause-values
makes_true-requires-clause-values c =
    let check = c.args.check.now in
    let none = c.first_misfit.ensures.misfit 0 ∙ ap (option_map (λ i. 0 + i)) c.in-None.is in
    let listed = are_listed check.table.now check.declared.now c.args.pairs.now 0 c.if-pairs-check.false none in
    record { names = listed.names; fit = All-from_recursion _ c.args.pairs.now listed.values_fit }

pub returns-in-Some : goal.returns-in-Some
returns-in-Some c =
    let line = c.args.line in
    names_broken c.breaks-in-Some.result 1 (line + 1 + c.in-Some.i) _ c.breaks-in-Some.ensures
    (misfit_named (judged_check c.args.check.now) c.args.pairs.now line c.if-pairs-check.false (line + 1 + c.in-Some.i) (c.first_misfit.ensures.misfit (line + 1) ∙ ap (option_map (λ i. line + 1 + i)) c.in-Some.is))

pub returns-then-branch : goal.returns-then-branch
returns-then-branch c =
    let line = c.args.line in
    truth_named (judged_check c.args.check.now) c.args.pairs.now line c.if-pairs-check.false _ (c.first_misfit.ensures.misfit (line + 1) ∙ ap (option_map (λ i. line + 1 + i)) c.in-None.is) c.in_ok-makes_true-in-None.ensures
    ∙ ap (λ good. cond good None (Some (breaks 1 line))) c.if-branch.true

pub returns-else-branch : goal.returns-else-branch
returns-else-branch c =
    let line = c.args.line in
    names_broken c.breaks-else-branch.result 1 line _ c.breaks-else-branch.ensures
    (truth_named (judged_check c.args.check.now) c.args.pairs.now line c.if-pairs-check.false _ (c.first_misfit.ensures.misfit (line + 1) ∙ ap (option_map (λ i. line + 1 + i)) c.in-None.is) c.in_ok-makes_true-in-None.ensures
    ∙ ap (λ good. cond good None (Some (breaks 1 line))) c.if-branch.false)
