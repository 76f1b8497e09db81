-- Generated scripts, step by step.
use Rattle.std.proofs.Common.{◌≡◌, ℕ, zero, suc, ◌+◌, ◌++◌, sym, ap, ◌∙◌, arith, append_assoc, append-nil}
use Rattle.ffc_solve.specs.Generated.{step_text, steps_text}

steps-push : (i n : ℕ) → steps_text i (suc n) ≡ steps_text i n ++ step_text (i + n)
steps-push i zero = append-nil (step_text i) ∙ ap step_text (let e : i ≡ i + 0 = omega arith in e)
steps-push i (suc n) =
    let e : (i + 1) + n ≡ i + suc n = omega arith in
    ap (λ a. step_text i ++ a) (steps-push (i + 1) n)
    ∙ sym (append_assoc (step_text i) (steps_text (i + 1) n) (step_text ((i + 1) + n)))
    ∙ ap (λ k. steps_text i (suc n) ++ step_text k) e

pub steps-next : (n : ℕ) → steps_text 1 (n + 1) ≡ steps_text 1 n ++ step_text (n + 1)
steps-next n =
    let e : n + 1 ≡ suc n = omega arith in
    let f : 1 + n ≡ n + 1 = omega arith in
    ap (steps_text 1) e ∙ steps-push 1 n ∙ ap (λ k. steps_text 1 n ++ step_text k) f
