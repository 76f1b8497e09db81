use Rattle.std.proofs.Common.{◌≡◌, sym, ap, ◌∙◌}
use Rattle.std.specs.List.{filter, range_with_len}
use Rattle.std.proofs.lemmas.Result.{IfOk-weaker}
use Rattle.ffc_rules.specs.Cones.{is_listed}
use Rattle.ffc_rules.specs.Cores.{numbers_reached, core}
use Rattle.ffc_core.proofs.cores.core_of.Goals as goal

pub returns-in-UnsatCases : goal.returns-in-UnsatCases
unfolding core
returns-in-UnsatCases c =
    IfOk-weaker c.all_numbers.result _ (λ v. v.items ≡ core c.args.entry.now c.args.in_force)
    (λ v h. h ∙ sym (ap (λ e. core e c.args.in_force) c.in-UnsatCases.is)) c.all_numbers.ensures

pub returns-in-UnsatSteps : goal.returns-in-UnsatSteps
unfolding core
returns-in-UnsatSteps c =
    IfOk-weaker c.core_of_lines.result _ (λ v. v.items ≡ core c.args.entry.now c.args.in_force)
    (λ v h. h ∙ ap (λ lines. filter (λ k. is_listed (numbers_reached lines) k) (range_with_len 0 c.args.in_force)) c.as_slice.ensures
    ∙ sym (ap (λ e. core e c.args.in_force) c.in-UnsatSteps.is)) c.core_of_lines.ensures

pub returns-in-Sat : goal.returns-in-Sat
unfolding core
returns-in-Sat c = c.new.ensures.items ∙ sym (ap (λ e. core e c.args.in_force) c.in-Sat.is)

pub returns-in-Unknown : goal.returns-in-Unknown
unfolding core
returns-in-Unknown c = c.new-in-Unknown.ensures.items ∙ sym (ap (λ e. core e c.args.in_force) c.in-Unknown.is)
