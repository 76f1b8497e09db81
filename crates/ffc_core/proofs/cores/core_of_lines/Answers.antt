use Rattle.std.proofs.Common.{◌≡◌, ℕ, false, length, get_or, ap, ◌∙◌, arith}
use Rattle.std.specs.List.{filter, range_with_len}
use Rattle.std.proofs.lemmas.Result.{IfOk-weaker}
use Rattle.ffc_rules.specs.Cones.{is_listed}
use Rattle.ffc_rules.specs.Cores.{numbers_reached}
use Rattle.ffc_core.proofs.MarkLemmas.{same_kept}
use Rattle.ffc_core.proofs.cores.core_of_lines.Goals as goal

pub returns : goal.returns
returns c =
    let numbers = c.in_ok-numbers.numbers.items in
    let count = c.args.in_force in
    let p = λ (k : ℕ). is_listed (numbers_reached c.args.lines.now) k in
    IfOk-weaker c.marked.result _ (λ v. v.items ≡ filter p (range_with_len 0 count))
    (λ v h. h ∙ ap (λ m. filter (λ k. get_or m k false) (range_with_len 0 (length m))) c.as_slice-2.ensures.value
    ∙ ap (λ n. filter (λ k. get_or numbers k false) (range_with_len 0 n)) c.in_ok-numbers.ensures.len
    ∙ same_kept (λ k. get_or numbers k false) p 0 count (λ k low high. c.in_ok-numbers.ensures.taken k (omega (arith, high)))) c.marked.ensures
