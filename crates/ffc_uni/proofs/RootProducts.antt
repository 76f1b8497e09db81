-- The product of the X - root is monic, and its degree is the number of the roots.
use Rattle.std.proofs.Common.{◌≡◌, ℕ, zero, suc, ◌+◌, ◌-◌, ◌*◌, ◌%◌, ◌<◌, ◌≤◌, List, [], ◌∷◌, length, refl, sym, ap, ◌∙◌, arith, mod-eq_of_lt, inl, inr}
use Rattle.std.proofs.lemmas.Bool.{cases_lt}
use Rattle.ffc_uni.specs.Univariate.{Coefficients, coefficient_at, SameUnivariate, plus, multiple, times, product_of_roots}
use Rattle.ffc_uni.proofs.Coefficients.{coefficient_at-plus, coefficient_at-multiple}

nothing : (k : ℕ) → coefficient_at (0 ∷ []) k ≡ 0
nothing zero = refl
nothing (suc k) = refl

-- the coefficients of X + b times a polynomial
times_root_at : (b : ℕ) (g : Coefficients) (k : ℕ) → coefficient_at (times (b ∷ 1 ∷ []) g) (suc k) ≡ b * coefficient_at g (suc k) + coefficient_at g k
times_root_at b g k =
    coefficient_at-plus (multiple b g) (0 ∷ times (1 ∷ []) g) (suc k)
    ∙ omega (arith, coefficient_at-multiple b g (suc k), coefficient_at-plus (multiple 1 g) (0 ∷ []) k, coefficient_at-multiple 1 g k, nothing k)

-- there is no coefficient above the number of roots
none_above : (p : ℕ) (roots : List ℕ) (k : ℕ) → length roots < k → coefficient_at (product_of_roots p roots) k ≡ 0
none_above p [] zero h = absurd (omega arith)
none_above p [] (suc k) h = refl
none_above p (a ∷ roots) zero h = absurd (omega arith)
none_above p (a ∷ roots) (suc k) h =
    let g = product_of_roots p roots in
    times_root_at (p - a) g k
    ∙ ap (λ n. (p - a) * n + coefficient_at g k) (none_above p roots (suc k) (omega arith))
    ∙ omega (arith, none_above p roots k (omega arith))

-- the one at it is 1
is_monic : (p : ℕ) (roots : List ℕ) → coefficient_at (product_of_roots p roots) (length roots) ≡ 1
is_monic p [] = refl
is_monic p (a ∷ roots) =
    let g = product_of_roots p roots in
    let n = length roots in
    times_root_at (p - a) g n
    ∙ ap (λ m. (p - a) * m + coefficient_at g n) (none_above p roots (suc n) (omega arith))
    ∙ omega (arith, is_monic p roots)

past_the_end : (a : Coefficients) (k : ℕ) → length a ≤ k → coefficient_at a k ≡ 0
past_the_end [] k h = refl
past_the_end (c ∷ a) zero h = absurd (omega arith)
past_the_end (c ∷ a) (suc k) h = past_the_end a k (omega arith)

-- a list of the same polynomial is longer than the list of roots
pub product_is_long : (p : ℕ) (roots : List ℕ) (r : Coefficients) → 2 ≤ p → SameUnivariate p r (product_of_roots p roots) → length roots < length r
product_is_long p roots r least same = elim (cases_lt (length roots) (length r)) [
  | inl long ↦ long
  | inr short ↦
      let none : 0 % p ≡ 1 % p =
      ap (λ n. n % p) (sym (past_the_end r (length roots) short)) ∙ same (length roots) ∙ ap (λ n. n % p) (is_monic p roots) in
      let zero_is : 0 % p ≡ 0 = mod-eq_of_lt (omega arith) in
      let one_is : 1 % p ≡ 1 = mod-eq_of_lt (omega arith) in
      absurd (omega arith)
]
