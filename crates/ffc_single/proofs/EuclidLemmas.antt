-- What a step of Euclid's algorithm with cofactors keeps.
use Rattle.std.proofs.Common.{◌≡◌, ◌≢◌, ℕ, ◌+◌, ◌*◌, ◌%◌, ◌<◌, ◌≤◌, [], ◌∷◌, length, refl, sym, ap, ◌∙◌, subst, arith}
use Rattle.std.proofs.Math.Nat.{zero-mod}
use Rattle.ffc_field.specs.Modular.{add_mod, mul_mod}
use Rattle.ffc_roots.specs.Roots.{IsCombination}
use Rattle.ffc_roots.proofs.Identities.{by_values, cancel_sum, minus_and_back}
use Rattle.ffc_uni.specs.Univariate.{Coefficients, SameUnivariate, IsNormal, plus, minus, times, value_of}
use Rattle.ffc_uni.proofs.ValueLemmas.{sum_at-plus, sum_at-multiple, sum_at-times, value_of-plus, value_of-times, one_value}
use Rattle.ffc_uni.proofs.Coefficients.{plus_alike, times_alike_first, times_alike_second}
use Rattle.ffc_single.specs.declared.euclid.Combination.{Combination}
use Rattle.ffc_single.specs.Euclid.{IsLeftOver, IsFirstDivision, IsEuclid, IsNextDivisor, HasRootsOf}

pub nonempty : (a : Coefficients) → a ≢ [] → 1 ≤ length a
nonempty [] some = absurd (some refl)
nonempty (x ∷ a) some = omega arith

pub empty_or_longer : (a : Coefficients) → 1 ≤ length a → a ≢ []
empty_or_longer a some none = let short = ap length none in omega (arith, short)

-- ---- values

-- where both factors' sum is 0 at a point
sum_zero : (p x : ℕ) (q b r f : Coefficients) → SameUnivariate p f (plus (times q b) r) → value_of p x b ≡ 0 → value_of p x r ≡ 0 → value_of p x f ≡ 0
sum_zero p x q b r f division one two =
    one_value p x f (plus (times q b) r) division
    ∙ value_of-plus p x (times q b) r
    ∙ (λ i. add_mod p ((value_of-times p x q b ∙ ap (λ v. mul_mod p (value_of p x q) v) one) i) (two i))
    ∙ (let nothing : (value_of p x q * 0) % p + 0 ≡ (value_of p x q * 0) % p = omega arith in ap (λ n. n % p) (nothing ∙ ap (λ n. n % p) (let none : value_of p x q * 0 ≡ 0 = omega arith in none) ∙ zero-mod p) ∙ zero-mod p)

-- ---- combinations

-- the remainder is a combination where what is divided is one, and the divisor
combined_step : (p : ℕ) (g h a1 b1 v1 a2 b2 v2 q a b v : Coefficients) → 0 < p → IsCombination p g h a1 b1 v1 → IsCombination p g h a2 b2 v2
    → SameUnivariate p v1 (plus (times q v2) v) → SameUnivariate p a (minus p a1 (times q a2)) → SameUnivariate p b (minus p b1 (times q b2)) → IsCombination p g h a b v
combined_step p g h a1 b1 v1 a2 b2 v2 q a b v some first second division left right =
    let combined = plus (times a2 g) (times b2 h) in
    let back_a : SameUnivariate p (plus a (times q a2)) a1 = λ j.
    plus_alike p a (minus p a1 (times q a2)) (times q a2) (times q a2) left (λ i. refl) j ∙ minus_and_back p a1 (times q a2) some j in
    let back_b : SameUnivariate p (plus b (times q b2)) b1 = λ j.
    plus_alike p b (minus p b1 (times q b2)) (times q b2) (times q b2) right (λ i. refl) j ∙ minus_and_back p b1 (times q b2) some j in
    cancel_sum p (plus (times a g) (times b h)) v (times q v2) some (λ j.
    plus_alike p (plus (times a g) (times b h)) (plus (times a g) (times b h)) (times q v2) (times q combined) (λ i. refl)
    (times_alike_second p q v2 combined (λ i. sym (second i))) j
    ∙ by_values p (plus (plus (times a g) (times b h)) (times q combined)) (plus (times (plus a (times q a2)) g) (times (plus b (times q b2)) h))
    (λ x. simp (sum_at-plus, sum_at-times) (omega arith)) j
    ∙ plus_alike p (times (plus a (times q a2)) g) (times a1 g) (times (plus b (times q b2)) h) (times b1 h)
    (times_alike_first p (plus a (times q a2)) a1 g back_a) (times_alike_first p (plus b (times q b2)) b1 h back_b) j
    ∙ first j
    ∙ division j
    ∙ by_values p (plus (times q v2) v) (plus v (times q v2)) (λ x. simp sum_at-plus (omega arith)) j)

-- g is 1 times g
combined_first : (p : ℕ) (g h one : Coefficients) → SameUnivariate p one (1 ∷ []) → IsCombination p g h one [] g
combined_first p g h one unit k =
    plus_alike p (times one g) (times (1 ∷ []) g) (times [] h) (times [] h) (times_alike_first p one (1 ∷ []) g unit) (λ j. refl) k
    ∙ by_values p (plus (times (1 ∷ []) g) (times [] h)) g (λ x. simp (sum_at-plus, sum_at-times, sum_at-multiple) (omega arith)) k

-- what is left of h is h less the quotient times g
combined_rest : (p : ℕ) (g h q rest a b : Coefficients) → 0 < p → SameUnivariate p a (minus p [] q) → SameUnivariate p b (1 ∷ []) → SameUnivariate p h (plus (times q g) rest) → IsCombination p g h a b rest
combined_rest p g h q rest a b some left unit division =
    let back : SameUnivariate p (plus a q) [] = λ j. plus_alike p a (minus p [] q) q q left (λ i. refl) j ∙ minus_and_back p [] q some j in
    cancel_sum p (plus (times a g) (times b h)) rest (times q g) some (λ j.
    by_values p (plus (plus (times a g) (times b h)) (times q g)) (plus (times (plus a q) g) (times b h)) (λ x. simp (sum_at-plus, sum_at-times) (omega arith)) j
    ∙ plus_alike p (times (plus a q) g) (times [] g) (times b h) (times (1 ∷ []) h) (times_alike_first p (plus a q) [] g back) (times_alike_first p b (1 ∷ []) h unit) j
    ∙ by_values p (plus (times [] g) (times (1 ∷ []) h)) h (λ x. simp (sum_at-plus, sum_at-times, sum_at-multiple) (omega arith)) j
    ∙ division j
    ∙ by_values p (plus (times q g) rest) (plus rest (times q g)) (λ x. simp sum_at-plus (omega arith)) j)

-- ---- the steps

-- the first two combinations
pub euclid_start : {F : Type 0} (p : ℕ) (g h quotient rest : Coefficients) (first second : Combination F) → 0 < p → IsFirstDivision p g h quotient rest
    → first.value ≡ g → SameUnivariate p first.a (1 ∷ []) → length first.a ≤ 1 → first.b ≡ []
    → second.value ≡ rest → SameUnivariate p second.a (minus p [] quotient) → length second.a ≤ length quotient → SameUnivariate p second.b (1 ∷ []) → length second.b ≤ 1
    → IsEuclid p g h first second
euclid_start p g h quotient rest first second some division value_is unit unit_short none rest_is less less_short other other_short =
    let value_long = ap length value_is in
    let rest_long = ap length rest_is in
    let none_long = ap length none in
    let lower = division.lower in
    let fits = division.fits in
    let left = division.some in
    record {
      first_is = subst (λ v. IsCombination p g h first.a first.b v) (sym value_is) (subst (λ b. IsCombination p g h first.a b g) (sym none) (combined_first p g h first.a unit));
      second_is = subst (λ v. IsCombination p g h second.a second.b v) (sym rest_is) (combined_rest p g h quotient rest second.a second.b some less other division.division);
      within = omega arith;
      lower = omega arith;
      falls = λ empty. absurd (let short = ap length empty in omega (arith, short));
      first_a = omega arith;
      first_b = omega arith;
      second_a = omega arith;
      second_b = omega arith;
      roots = λ x one two.
          (let at_g : value_of p x g ≡ 0 = ap (value_of p x) (sym value_is) ∙ one in
          (at_g, sum_zero p x quotient g rest h division.division at_g (ap (value_of p x) (sym rest_is) ∙ two)));
    }

-- the second combination and what is left of the first
pub euclid_step : {F : Type 0} (p : ℕ) (g h : Coefficients) (first second next : Combination F) → 0 < p → IsEuclid p g h first second → IsLeftOver p first second next → second.value ≢ []
    → IsEuclid p g h second next
euclid_step p g h first second next some state step left =
    let long : 1 ≤ length second.value = nonempty second.value left in
    let within = state.within in
    let lower = state.lower in
    let first_a = state.first_a in
    let first_b = state.first_b in
    let second_a = state.second_a in
    let second_b = state.second_b in
    let fits = step.fits in
    let falls = step.lower in
    let short_a = step.a.short in
    let short_b = step.b.short in
    record {
      first_is = state.second_is;
      second_is = combined_step p g h first.a first.b first.value second.a second.b second.value step.quotient next.a next.b next.value some state.first_is state.second_is step.value step.a.same step.b.same;
      within = omega arith;
      lower = falls;
      falls = λ _. omega arith;
      first_a = omega arith;
      first_b = omega arith;
      second_a = omega arith;
      second_b = omega arith;
      roots = λ x one two. state.roots x (sum_zero p x step.quotient second.value next.value first.value step.value one two) one;
    }

-- where nothing is left
pub euclid_end : {F : Type 0} (p : ℕ) (g h : Coefficients) (first second : Combination F) → IsEuclid p g h first second → second.value ≡ [] → IsNormal p first.value → IsNextDivisor p g h first
euclid_end p g h first second state none normal =
    let lower = state.lower in
    let long : 1 ≤ length first.value = omega arith in
    let first_a = state.first_a in
    let first_b = state.first_b in
    let zero : (x : ℕ) → value_of p x second.value ≡ 0 = λ x. ap (value_of p x) none ∙ zero-mod p in
    record {
      is = state.first_is;
      normal = normal;
      some = long;
      lower = state.falls none;
      short_a = omega arith;
      short_b = omega arith;
      of_first = λ x one. (state.roots x one (zero x)).0;
      of_second = λ x one. (state.roots x one (zero x)).1;
    }

-- a multiple
pub multiple_has_roots : (p : ℕ) (g h quotient rest : Coefficients) → SameUnivariate p h (plus (times quotient g) rest) → rest ≡ [] → HasRootsOf p g h
multiple_has_roots p g h quotient rest division none x zero = sum_zero p x quotient g rest h division zero (ap (value_of p x) none ∙ zero-mod p)
