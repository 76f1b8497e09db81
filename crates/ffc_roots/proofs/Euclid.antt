-- Euclid's algorithm: what each division keeps.
use Rattle.std.proofs.Common.{◌≡◌, ℕ, ◌<◌, [], ◌∷◌, refl, sym, ◌∙◌, subst, arith}
use Rattle.ffc_uni.specs.Univariate.{Coefficients, SameUnivariate, plus, minus, times}
use Rattle.ffc_uni.proofs.ValueLemmas.{sum_at-plus, sum_at-multiple, sum_at-times}
use Rattle.ffc_uni.proofs.Coefficients.{plus_alike, times_alike_first, times_alike_second}
use Rattle.ffc_roots.specs.Divisors.{IsDivisor, IsBezout}
use Rattle.ffc_roots.proofs.Identities.{by_values, cancel_sum, minus_and_back}

-- the remainder is a combination where what is divided is one, and the divisor
pub bezout_step : (p : ℕ) (f h b1 v1 b2 v2 q b v : Coefficients) → 0 < p → IsBezout p f h b1 v1 → IsBezout p f h b2 v2
    → SameUnivariate p v1 (plus (times q v2) v) → SameUnivariate p b (minus p b1 (times q b2)) → IsBezout p f h b v
bezout_step p f h b1 v1 b2 v2 q b v some first second division cofactor =
    let a1 = first.0 in
    let a2 = second.0 in
    let a = minus p a1 (times q a2) in
    let combined = plus (times a2 f) (times b2 h) in
    let back : SameUnivariate p (plus b (times q b2)) b1 = λ j.
    plus_alike p b (minus p b1 (times q b2)) (times q b2) (times q b2) cofactor (λ i. refl) j ∙ minus_and_back p b1 (times q b2) some j in (
      a,
      cancel_sum p (plus (times a f) (times b h)) v (times q v2) some (λ j.
          plus_alike p (plus (times a f) (times b h)) (plus (times a f) (times b h)) (times q v2) (times q combined) (λ i. refl)
          (times_alike_second p q v2 combined (λ i. sym (second.1 i))) j
          ∙ by_values p (plus (plus (times a f) (times b h)) (times q combined)) (plus (times (plus a (times q a2)) f) (times (plus b (times q b2)) h))
          (λ x. simp (sum_at-plus, sum_at-times) (omega arith)) j
          ∙ plus_alike p (times (plus a (times q a2)) f) (times a1 f) (times (plus b (times q b2)) h) (times b1 h)
          (times_alike_first p (plus a (times q a2)) a1 f (minus_and_back p a1 (times q a2) some)) (times_alike_first p (plus b (times q b2)) b1 h back) j
          ∙ first.1 j
          ∙ division j
          ∙ by_values p (plus (times q v2) v) (plus v (times q v2)) (λ x. simp sum_at-plus (omega arith)) j),
    )

-- f is a combination of two polynomials
abbrev pub IsSpanned : ℕ → Coefficients → Coefficients → Coefficients → Type 0
IsSpanned p f v w = (u : Coefficients) × (t : Coefficients) × SameUnivariate p f (plus (times u v) (times t w))

pub spanned_step : (p : ℕ) (f v1 v2 q v : Coefficients) → IsSpanned p f v1 v2 → SameUnivariate p v1 (plus (times q v2) v) → IsSpanned p f v2 v
spanned_step p f v1 v2 q v before division =
    let u = before.0 in
    let t = before.1 in (
      plus (times u q) t,
      u,
      λ j.
          before.2 j
          ∙ plus_alike p (times u v1) (times u (plus (times q v2) v)) (times t v2) (times t v2) (times_alike_second p u v1 (plus (times q v2) v) division) (λ i. refl) j
          ∙ by_values p (plus (times u (plus (times q v2) v)) (times t v2)) (plus (times (plus (times u q) t) v2) (times u v)) (λ x. simp (sum_at-plus, sum_at-times) (omega arith)) j,
    )

pub spanned_end : (p : ℕ) (f v : Coefficients) → IsSpanned p f v [] → IsDivisor p v f
spanned_end p f v before = (
  before.0,
  λ j.
      before.2 j
      ∙ by_values p (plus (times before.0 v) (times before.1 [])) (times before.0 v) (λ x. simp (sum_at-plus, sum_at-times) (omega arith)) j,
)

-- what the algorithm begins with
pub spanned_by_first : (p : ℕ) (f w : Coefficients) → IsSpanned p f f w
spanned_by_first p f w = (1 ∷ [], [], by_values p f (plus (times (1 ∷ []) f) (times [] w)) (λ x. simp (sum_at-plus, sum_at-multiple) (omega arith)))

pub spanned_by_second : (p : ℕ) (h v : Coefficients) → IsSpanned p h v h
spanned_by_second p h v = ([], 1 ∷ [], by_values p h (plus (times [] v) (times (1 ∷ []) h)) (λ x. simp (sum_at-plus, sum_at-multiple) (omega arith)))

pub bezout_of_first : (p : ℕ) (f h zero : Coefficients) → SameUnivariate p zero [] → IsBezout p f h zero f
bezout_of_first p f h zero none = (
  1 ∷ [],
  λ j.
      plus_alike p (times (1 ∷ []) f) (times (1 ∷ []) f) (times zero h) (times [] h) (λ i. refl) (times_alike_first p zero [] h none) j
      ∙ by_values p (plus (times (1 ∷ []) f) (times [] h)) f (λ x. simp (sum_at-plus, sum_at-multiple) (omega arith)) j,
)

pub bezout_of_second : (p : ℕ) (f h one : Coefficients) → SameUnivariate p one (1 ∷ []) → IsBezout p f h one h
bezout_of_second p f h one is = (
  [],
  λ j.
      times_alike_first p one (1 ∷ []) h is j
      ∙ by_values p (times (1 ∷ []) h) h (λ x. simp (sum_at-plus, sum_at-multiple) (omega arith)) j,
)

-- what holds before the first division
pub record Started (p : ℕ) (f h b v c w : Coefficients) : Type 0 where
  pub first : IsBezout p f h b v
  pub second : IsBezout p f h c w
  pub of_f : IsSpanned p f v w
  pub of_h : IsSpanned p h v w

started : (p : ℕ) (f h b c : Coefficients) → SameUnivariate p b [] → SameUnivariate p c (1 ∷ []) → Started p f h b f c h
started p f h b c none one = record {
  first = bezout_of_first p f h b none;
  second = bezout_of_second p f h c one;
  of_f = spanned_by_first p f h;
  of_h = spanned_by_second p h f;
}

pub started_with : (p : ℕ) (f h b v c w : Coefficients) → v ≡ f → w ≡ h → SameUnivariate p b [] → SameUnivariate p c (1 ∷ []) → Started p f h b v c w
started_with p f h b v c w first second none one =
    subst (λ x. Started p f h b x c w) (sym first) (subst (λ y. Started p f h b f c y) (sym second) (started p f h b c none one))

-- ---- divisors

pub divisor_of_divisor : (p : ℕ) (g f k : Coefficients) → IsDivisor p g f → IsDivisor p f k → IsDivisor p g k
divisor_of_divisor p g f k first second = (
  times second.0 first.0,
  λ j.
      second.1 j
      ∙ times_alike_second p second.0 f (times first.0 g) first.1 j
      ∙ by_values p (times second.0 (times first.0 g)) (times (times second.0 first.0) g) (λ x. simp sum_at-times (omega arith)) j,
)

-- a common divisor of f and h divides q*f + h
pub divisor_of_sum : (p : ℕ) (g f h q k : Coefficients) → IsDivisor p g f → IsDivisor p g h → SameUnivariate p k (plus (times q f) h) → IsDivisor p g k
divisor_of_sum p g f h q k first second sum = (
  plus (times q first.0) second.0,
  λ j.
      sum j
      ∙ plus_alike p (times q f) (times q (times first.0 g)) h (times second.0 g) (times_alike_second p q f (times first.0 g) first.1) second.1 j
      ∙ by_values p (plus (times q (times first.0 g)) (times second.0 g)) (times (plus (times q first.0) second.0) g) (λ x. simp (sum_at-plus, sum_at-times) (omega arith)) j,
)
