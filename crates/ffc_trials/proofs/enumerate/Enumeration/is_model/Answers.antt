use Rattle.std.proofs.Common.{ℕ, List, All, Contains, sym, ap, ◌∙◌, subst}
use Rattle.std.specs.List.{list_all}
use Rattle.ffc_term.specs.declared.value.Value.{Value}
use Rattle.ffc_term.specs.Values.{truth_in, values}
use Rattle.ffc_term.proofs.RootLemmas.{same_tests}
use Rattle.ffc_rules.specs.Assignments.{are_true}
use Rattle.ffc_check.specs.Judged.{judged_check}
use Rattle.ffc_trials.proofs.EnumerateLemmas.{assertions_among}
use Rattle.ffc_trials.proofs.enumerate.Enumeration.is_model.Goals as goal

pub are_true-found-requires-clause-among : goal.are_true-found-requires-clause-among
are_true-found-requires-clause-among c =
    let cone = c.args.cone.now in
    subst (λ (nodes : List ℕ). All (Contains nodes) c.as_slice-2.result.now) (sym c.as_slice.ensures.value)
    (subst (All (Contains cone.nodes.items)) (sym c.as_slice-2.ensures.value) (assertions_among (judged_check c.args.check.now) c.requires.valid cone c.requires.cone))

pub returns-clause-model : goal.returns-clause-model
returns-clause-model c =
    let ns = c.args.check.now.table.now in
    let ids = c.args.check.now.in_force.now in
    let known = values ns c.new-assignment.result in
    c.are_true-found.ensures
    ∙ ap (λ (roots : List ℕ). list_all (truth_in known) roots) c.as_slice-2.ensures.value
    ∙ same_tests (truth_in known) c.args.cone.now.assertions.items ids c.requires.cone.assertions
    ∙ ap (λ (A : List Value). are_true ns ids A) (c.new-assignment.ensures ∙ (λ i. (c.replace-values.ensures.value i).items))
