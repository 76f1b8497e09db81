-- The value of what a sum adds, and of a line in one variable, at a point where the lines so far are 0.
use Rattle.ffc_trees.proofs.RuleLemmas.{sum_from}
use Rattle.std.proofs.Common.{◌≡◌, ℕ, zero, suc, ◌+◌, ◌*◌, ◌%◌, ◌^◌, true, List, [], ◌∷◌, length, Ok, refl, sym, ap, ap₂, ◌∙◌, inl, inr, arith, eqb-true, mul_comm}
use Rattle.std.proofs.Math.Nat.{zero-mod, pow-zero, pow-succ', mul_assoc, mul-one}
use Rattle.std.proofs.lemmas.Bool.{cases_lt, and_parts, false≢true}
use Rattle.std.proofs.lemmas.List.{get_or_past}
use Rattle.ffc_field.specs.Modular.{add_mod, mul_mod}
use Rattle.ffc_field.proofs.ModularLaws.{mul_mod-zero}
use Rattle.ffc_ring.specs.Monomial.{Monomial, degree, mono_value}
use Rattle.ffc_ring.specs.Polynomial.{Terms, product, value_sum, poly_value}
use Rattle.ffc_ring.proofs.PolynomialLemmas.{poly_value-append, poly_value-product}
use Rattle.ffc_uni.specs.Univariate.{sum_at, value_of}
use Rattle.ffc_uni.specs.Rows.{shifted}
use Rattle.ffc_uni.proofs.ValueLemmas.{sum_at-plus}
use Rattle.ffc_trees.specs.Laws.{AreZeroAt}
use Rattle.ffc_trees.specs.TreeLines.{Limits, Multiple, line_at, sum_of_multiples, combined, combine_line, is_power, is_in, coefficients_of}
use Rattle.ffc_trees.proofs.NormalLemmas.{poly_value-normal}

-- ---- sums

-- a line is 0, and so is one that is not there
pub line_is_zero : (p : ℕ) (point : ℕ → ℕ) (lines : List Terms) (k : ℕ) → AreZeroAt p point lines → poly_value p point (line_at lines k) ≡ 0
line_is_zero p point lines k zeros =
    elim (cases_lt k (length lines)) as (λ _. poly_value p point (line_at lines k) ≡ 0) [
      | inl inside ↦ zeros k [] inside
      | inr past ↦ ap (poly_value p point) (get_or_past lines k [] past) ∙ zero-mod p
    ]

sum_is_zero : (p : ℕ) (point : ℕ → ℕ) (lines : List Terms) (ms : List Multiple) → AreZeroAt p point lines → poly_value p point (sum_of_multiples lines ms) ≡ 0
sum_is_zero p point lines [] zeros = zero-mod p
sum_is_zero p point lines (m ∷ ms) zeros =
    let first : poly_value p point (product m.1 (line_at lines m.0)) ≡ 0 =
    poly_value-product p point m.1 (line_at lines m.0) ∙ ap (λ v. mul_mod p (poly_value p point m.1) v) (line_is_zero p point lines m.0 zeros) ∙ mul_mod-zero p (poly_value p point m.1)
    in poly_value-append p point (product m.1 (line_at lines m.0)) (sum_of_multiples lines ms)
    ∙ ap₂ (add_mod p) first (sum_is_zero p point lines ms zeros) ∙ zero-mod p

-- a sum of multiples is 0 where the lines are
pub combined_is_zero : (l : Limits) (p : ℕ) (point : ℕ → ℕ) (lines : List Terms) (ms : List Multiple) (line : Terms) → combine_line l p lines ms ≡ Ok line → AreZeroAt p point lines → poly_value p point line ≡ 0
unfolding combined
combined_is_zero l p point lines ms line h zeros =
    ap (poly_value p point) (sym (sum_from l p lines ms line h).sum) ∙ poly_value-normal p point (sum_of_multiples lines ms) ∙ sum_is_zero p point lines ms zeros

-- ---- lines in one variable

mono_value-is_power : (point : ℕ → ℕ) (x : ℕ) (m : Monomial) → is_power x m ≡ true → mono_value point m ≡ point x ^ degree m
mono_value-is_power point x [] is = sym (pow-zero (point x))
mono_value-is_power point x (f ∷ []) is =
    ap (λ y. point y ^ f.1 * 1) (eqb-true f.0 x is) ∙ mul-one (point x ^ f.1) ∙ ap (λ e. point x ^ e) (let same : f.1 ≡ f.1 + 0 = omega arith in same)
mono_value-is_power point x (f ∷ g ∷ m) is = absurd (false≢true is)

sum_at-shifted : (x e c : ℕ) → sum_at x (shifted e (c ∷ [])) ≡ c * x ^ e
sum_at-shifted x zero c = (let same : c + x * 0 ≡ c * 1 = omega arith in same) ∙ ap (λ n. c * n) (sym (pow-zero x))
sum_at-shifted x (suc e) c =
    let next : x * (c * x ^ e) ≡ c * x ^ suc e = sym (mul_assoc x c (x ^ e)) ∙ ap (λ n. n * x ^ e) (mul_comm x c) ∙ mul_assoc c x (x ^ e) ∙ ap (λ n. c * n) (sym (pow-succ' x e)) in
    ap (λ n. 0 + x * n) (sum_at-shifted x e c) ∙ (let same : 0 + x * (c * x ^ e) ≡ x * (c * x ^ e) = omega arith in same) ∙ next

-- the coefficients of a line in x alone have its value
value_sum-coefficients : (point : ℕ → ℕ) (x : ℕ) (ts : Terms) → is_in x ts ≡ true → sum_at (point x) (coefficients_of ts) ≡ value_sum point ts
value_sum-coefficients point x [] is = refl
value_sum-coefficients point x (t ∷ ts) is =
    let both = and_parts (is_power x t.1) (is_in x ts) is in
    sum_at-plus (point x) (shifted (degree t.1) (t.0 ∷ [])) (coefficients_of ts)
    ∙ ap₂ ◌+◌ (sum_at-shifted (point x) (degree t.1) t.0 ∙ ap (λ n. t.0 * n) (sym (mono_value-is_power point x t.1 both.0))) (value_sum-coefficients point x ts both.1)

pub value_of-coefficients : (p : ℕ) (point : ℕ → ℕ) (x : ℕ) (ts : Terms) → is_in x ts ≡ true → value_of p (point x) (coefficients_of ts) ≡ poly_value p point ts
value_of-coefficients p point x ts is = ap (λ n. n % p) (value_sum-coefficients point x ts is)
