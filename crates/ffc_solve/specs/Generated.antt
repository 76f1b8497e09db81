-- The script that is generated for a size: the orbit of 3 under squaring and adding, step by step, and whether its end is determined.
use Rattle.std.specs.Prelude.{ℕ, zero, suc, ◌+◌, ◌-◌, List, [], ◌∷◌, ◌++◌, codes, decimal}

abbrev pub line : List ℕ → List ℕ
line text = text ++ 10 ∷ []

abbrev pub head_text : List ℕ
head_text =
    line (codes "(set-logic QF_FF)")
    ++ line (codes "(define-sort F () (_ FiniteField 18446744069414584321))")
    ++ line (codes "(declare-const x0 F)")
    ++ line (codes "(assert (= x0 (as ff3 F)))")

-- the lines of step number i
abbrev pub step_text : ℕ → List ℕ
step_text i =
    line (codes "(declare-const x" ++ decimal i ++ codes " F)")
    ++ line (codes "(assert (= x" ++ decimal i ++ codes " (ff.add (ff.mul x" ++ decimal (i - 1) ++ codes " x" ++ decimal (i - 1) ++ codes ") (as ff" ++ decimal i ++ codes " F))))")

-- the steps from number i on, so many
abbrev pub steps_text : ℕ → ℕ → List ℕ
steps_text i zero = []
steps_text i (suc n) = step_text i ++ steps_text (i + 1) n

abbrev pub tail_text : ℕ → List ℕ
tail_text n =
    line (codes "(check-sat)")
    ++ line (codes "(push 1)")
    ++ line (codes "(declare-const y F)")
    ++ line (codes "(assert (= y (ff.add (ff.mul x" ++ decimal (n - 1) ++ codes " x" ++ decimal (n - 1) ++ codes ") (as ff" ++ decimal n ++ codes " F))))")
    ++ line (codes "(assert (distinct y x" ++ decimal n ++ codes "))")
    ++ line (codes "(check-sat)")
    ++ line (codes "(pop 1)")
    ++ line (codes "(check-sat)")

abbrev pub made_text : ℕ → List ℕ
made_text n = head_text ++ steps_text 1 n ++ tail_text n
