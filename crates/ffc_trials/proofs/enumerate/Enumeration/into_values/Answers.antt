use Rattle.std.proofs.Common.{ℕ, ◌<◌, All, length, map, sym, ap, ◌∙◌, subst}
use Rattle.ffc_rules.specs.Assignments.{are_true}
use Rattle.ffc_check.specs.Judged.{judged_check}
use Rattle.ffc_check.proofs.AnswerLemmas.{written_back}
use Rattle.ffc_trials.specs.Counting.{number_given}
use Rattle.ffc_trials.specs.Stops.{AreModelValues}
use Rattle.ffc_trials.proofs.ListedLemmas.{map-zeros, zeros_inside, model_values}
use Rattle.ffc_trials.proofs.enumerate.Enumeration.into_values.Goals as goal

pub list_numbers-requires : goal.list_numbers-requires
list_numbers-requires c =
    let check = c.args.check.now in
    subst (All (λ p. p.0 < length check.table.now)) (sym (c.as_mut_slice.ensures.value ∙ c.requires.found.pairs)) (zeros_inside (judged_check check) c.requires.valid)

pub returns : goal.returns
returns c =
    let check = c.args.check.now in
    let ns = check.table.now in
    let pairs = c.args.self.pairs in
    let values = c.as_slice.result.now in
    let back = written_back c.list_numbers.new.pairs pairs.items pairs.len (c.list_numbers.auto.pairs ∙ ap length c.as_mut_slice.ensures.value) pairs.ok.0 in
    let listed = c.from_vec.ensures ∙ back ∙ c.list_numbers.ensures
    ∙ ap (map {A = ℕ × ℕ} {B = ℕ × ℕ} (λ p. (p.0, number_given ns values p.0))) (c.as_mut_slice.ensures.value ∙ c.requires.found.pairs)
    ∙ map-zeros (number_given ns values) check.declared.now in
    let good = ap (are_true ns check.in_force.now) c.as_slice.ensures.value ∙ c.requires.found.model in
    subst (AreModelValues (judged_check check)) (sym listed) (model_values (judged_check check) c.requires.valid values good)
