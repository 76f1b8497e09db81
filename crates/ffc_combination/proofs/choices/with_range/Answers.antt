use Rattle.std.proofs.Common.{◌≡◌, ◌+◌, ◌-◌, suc, ◌++◌, [], ◌∷◌, List, ℕ, sym, ap, ap₂, ◌∙◌, arith, append_assoc}
use Rattle.std.specs.List.{range_with_len}
use Rattle.ffc_combination.proofs.RangeLemmas.{range_more}
use Rattle.ffc_combination.proofs.choices.with_range.Goals as goal

pub loop-number-preserved : goal.loop-number-preserved
loop-number-preserved c =
    let vs = c.args.variables.now in
    let first = c.args.first in
    let n = c.loop-number.number in
    let low = c.loop-number.auto.number in
    let place : n ≡ first + (n - first) = omega (arith, low) in
    let count : suc (n - first) ≡ n + 1 - first = omega (arith, low) in
    c.in_ok-push.ensures.items
    ∙ ap₂ (λ (ks : List ℕ) (k : ℕ). ks ++ k ∷ []) c.loop-number.invariant place
    ∙ append_assoc vs (range_with_len first (n - first)) ((first + (n - first)) ∷ [])
    ∙ ap (λ ks. vs ++ ks) (sym (range_more first (n - first)) ∙ ap (range_with_len first) count)
