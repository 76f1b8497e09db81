use Rattle.std.proofs.Common.{◌≡◌, ℕ, ◌<◌, ◌≤◌, true, false, All, length, map, replicate, sym, ap, ◌∙◌, subst, arith}
use Rattle.std.proofs.lemmas.List.{length-replicate}
use Rattle.std.proofs.lemmas.List.Sums.{count_by-le-length}
use Rattle.ffc_term.specs.declared.value.Value.TheVariants as value
use Rattle.ffc_term.specs.Nodes.{is_constant}
use Rattle.ffc_term.specs.Tables.{constant_count}
use Rattle.ffc_rules.specs.Assignments.{are_true}
use Rattle.ffc_check.specs.Assigning.{with_values}
use Rattle.ffc_check.specs.Judged.{judged_check}
use Rattle.ffc_check.proofs.AnswerLemmas.{written_back}
use Rattle.ffc_trials.specs.Counting.{number_given}
use Rattle.ffc_trials.specs.Stops.{AreModelValues}
use Rattle.ffc_trials.proofs.KnownLemmas.{known_true}
use Rattle.ffc_trials.proofs.ListedLemmas.{map-zeros, zeros_inside, model_values}
use Rattle.ffc_trials.proofs.known.completed_model.Goals as goal

pub list_numbers-requires : goal.list_numbers-requires
list_numbers-requires c =
    let check = c.args.check.now in
    subst (All (λ p. p.0 < length check.table.now)) (sym (c.as_mut_slice-2.ensures.value ∙ c.in_ok-pairs.ensures)) (zeros_inside (judged_check check) c.requires.valid)

pub returns : goal.returns
returns c =
    let check = c.args.check.now in
    let ns = check.table.now in
    let known = c.args.known.now in
    let blank = replicate c.len.result (value.Bool false) in
    let begun = c.in_ok-values.values in
    let pairs = c.in_ok-pairs.pairs in
    let values = c.as_slice.result.now in
    let kept = written_back c.give_known.new.values begun.items begun.len (c.give_known.auto.values ∙ ap length c.as_mut_slice.ensures.value) begun.ok.0 in
    let given = c.as_slice.ensures.value ∙ kept ∙ c.give_known.ensures ∙ ap (λ vs. with_values ns vs known) (c.as_mut_slice.ensures.value ∙ c.in_ok-values.ensures) in
    let back = written_back c.list_numbers.new.pairs pairs.items pairs.len (c.list_numbers.auto.pairs ∙ ap length c.as_mut_slice-2.ensures.value) pairs.ok.0 in
    let listed = c.from_vec.ensures ∙ back ∙ c.list_numbers.ensures
    ∙ ap (map {A = ℕ × ℕ} {B = ℕ × ℕ} (λ p. (p.0, number_given ns values p.0))) (c.as_mut_slice-2.ensures.value ∙ c.in_ok-pairs.ensures)
    ∙ map-zeros (number_given ns values) check.declared.now in
    let long = length-replicate c.len.result (value.Bool false) in
    let few : constant_count ns ≤ length ns = count_by-le-length is_constant ns in
    let count = c.len.ensures in
    let room : constant_count ns ≤ length blank = omega arith in
    let good : are_true ns check.in_force.now values ≡ true = ap (are_true ns check.in_force.now) given ∙ known_true (judged_check check) known blank c.requires.valid c.requires.known room in
    subst (AreModelValues (judged_check check)) (sym listed) (model_values (judged_check check) c.requires.valid values good)
