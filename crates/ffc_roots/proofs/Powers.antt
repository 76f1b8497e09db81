-- The last remainder of a chain is X^p modulo f, so a common divisor of f and that less X divides X^p - X.
use Rattle.std.proofs.Common.{◌≡◌, ℕ, suc, ◌+◌, ◌-◌, ◌*◌, ◌^◌, ◌<◌, Bool, true, false, List, [], ◌∷◌, refl, sym, ap, ap₂, ◌∙◌, subst, arith}
use Rattle.std.proofs.Math.Nat.{pow-succ'}
use Rattle.std.proofs.lemmas.Nat.{pow-add}
use Rattle.ffc_uni.specs.Rows.{shifted}
use Rattle.ffc_uni.specs.Univariate.{Coefficients, SameUnivariate, IsRemainder, indeterminate, plus, multiple, times, sum_at}
use Rattle.ffc_uni.specs.Chains.{Pair, digits_of, IsChainFrom, IsChain, last_remainder}
use Rattle.ffc_uni.proofs.DigitLemmas.{spelled, spelled-digits_of}
use Rattle.ffc_uni.proofs.Products.{remainder_of_product, remainder_alike, remainder_itself}
use Rattle.ffc_uni.proofs.ValueLemmas.{sum_at-plus, sum_at-times}
use Rattle.ffc_uni.proofs.Coefficients.{plus_alike}
use Rattle.ffc_roots.specs.Roots.{without_x}
use Rattle.ffc_roots.specs.Divisors.{IsDivisor, field_polynomial}
use Rattle.ffc_roots.proofs.Identities.{by_values}
use Rattle.ffc_roots.proofs.FieldPolynomial.{sum_at-shifted}
use Rattle.ffc_roots.proofs.Euclid.{divisor_of_sum}

-- the power X^e
abbrev power : ℕ → Coefficients
power e = shifted e (1 ∷ [])

squared : (p e n : ℕ) → e + e ≡ n → SameUnivariate p (times (power e) (power e)) (power n)
squared p e n same =
    by_values p (times (power e) (power e)) (power n)
    (λ x.
    sum_at-times x (power e) (power e)
    ∙ ap₂ ◌*◌ (sum_at-shifted x e) (sum_at-shifted x e)
    ∙ sym (pow-add x e e)
    ∙ ap (λ m. x ^ m) same
    ∙ sym (sum_at-shifted x n))

raised_once : (p e n : ℕ) → suc e ≡ n → SameUnivariate p (times indeterminate (power e)) (power n)
raised_once p e n same =
    by_values p (times indeterminate (power e)) (power n)
    (λ x.
    sum_at-times x indeterminate (power e)
    ∙ ap₂ ◌*◌ (let single : sum_at x indeterminate ≡ x = omega arith in single) (sum_at-shifted x e)
    ∙ sym (pow-succ' x e)
    ∙ ap (λ m. x ^ m) same
    ∙ sym (sum_at-shifted x n))

chain_remainder : (p e : ℕ) (f r : Coefficients) (ds : List Bool) (steps : List Pair) → IsChainFrom p f r ds steps → IsRemainder p f (power e) r
    → IsRemainder p f (power (spelled e ds)) (last_remainder r steps)
chain_remainder p e f r [] [] chain so_far = so_far
chain_remainder p e f r [] (s ∷ steps) chain so_far = absurd chain
chain_remainder p e f r (d ∷ ds) [] chain so_far = absurd chain
chain_remainder p e f r (false ∷ ds) (s ∷ steps) chain so_far =
    let n = 2 * e + 0 in
    let square = remainder_of_product p f (power e) (power e) r r s.1 so_far so_far (s.0, chain.0) in
    chain_remainder p n f s.1 ds steps chain.1 (remainder_alike p f (times (power e) (power e)) (power n) s.1 (squared p e n (omega arith)) square)
chain_remainder p e f r (true ∷ ds) (s ∷ []) chain so_far = absurd chain
chain_remainder p e f r (true ∷ ds) (s ∷ t ∷ steps) chain so_far =
    let n = 2 * e + 1 in
    let square = remainder_of_product p f (power e) (power e) r r s.1 so_far so_far (s.0, chain.0) in
    let double = remainder_alike p f (times (power e) (power e)) (power (2 * e)) s.1 (squared p e (2 * e) (omega arith)) square in
    let next = remainder_of_product p f indeterminate (power (2 * e)) indeterminate s.1 t.1 (remainder_itself p f indeterminate indeterminate (λ k. refl)) double (t.0, chain.1) in
    chain_remainder p n f t.1 ds steps chain.2 (remainder_alike p f (times indeterminate (power (2 * e))) (power n) t.1 (raised_once p (2 * e) n (omega arith)) next)

power_of_chain : (p : ℕ) (f : Coefficients) (steps : List Pair) → 0 < p → p < 2 ^ 64 → IsChain p f steps → IsRemainder p f (power p) (last_remainder indeterminate steps)
power_of_chain p f steps some fits chain =
    subst (λ n. IsRemainder p f (power n) (last_remainder indeterminate steps)) (spelled-digits_of p some fits)
    (chain_remainder p 1 f indeterminate (digits_of p) steps chain (remainder_itself p f (power 1) indeterminate (λ k. refl)))

pub divides_field_polynomial : (p : ℕ) (f g h : Coefficients) (steps : List Pair) → 0 < p → p < 2 ^ 64 → IsChain p f steps
    → SameUnivariate p h (without_x p (last_remainder indeterminate steps)) → IsDivisor p g f → IsDivisor p g h → IsDivisor p g (field_polynomial p)
unfolding field_polynomial
divides_field_polynomial p f g h steps some fits chain same first second =
    let r = last_remainder indeterminate steps in
    let remainder = power_of_chain p f steps some fits chain in
    let x = multiple (p - 1) indeterminate in
    divisor_of_sum p g f h remainder.0 (plus (power p) x) first second
    (λ k.
    plus_alike p (power p) (plus (times remainder.0 f) r) x x remainder.1 (λ j. refl) k
    ∙ by_values p (plus (plus (times remainder.0 f) r) x) (plus (times remainder.0 f) (plus r x)) (λ y. simp sum_at-plus (omega arith)) k
    ∙ plus_alike p (times remainder.0 f) (times remainder.0 f) (plus r x) h (λ j. refl) (λ j. sym (same j)) k)
