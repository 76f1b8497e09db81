-- Steps of a division.
use Rattle.std.proofs.Common.{◌≡◌, ℕ, zero, suc, ◌+◌, ◌-◌, ◌*◌, ◌%◌, ◌<◌, ◌≤◌, inl, inr, ◌∷◌, length, min, refl, sym, ap, ◌∙◌, arith, mod-eq_of_lt, mod-lt, add_comm, mul_assoc, mul_comm}
use Rattle.std.proofs.Math.Nat.{add-mod-mod}
use Rattle.std.proofs.lemmas.Bool.{cases_lt}
use Rattle.std.proofs.lemmas.Nat.{mul-mod_first, mul-mod_second}
use Rattle.ffc_field.specs.Modular.{sub_mod, mul_mod}
use Rattle.ffc_uni.specs.Univariate.{Coefficients, SameUnivariate, coefficient_at, plus, times}
use Rattle.ffc_uni.proofs.Coefficients.{coefficient_at-plus, plus_alike, times_alike_first}
use Rattle.ffc_uni.proofs.Convolutions.{coefficient_past}
use Rattle.ffc_uni.proofs.Passes.{restored}

-- the quotient of two residues, by the inverse, times the divisor
pub quotient_times : (p top inverse lead q : ℕ) → top < p → mul_mod p lead inverse ≡ 1 → q ≡ mul_mod p top inverse → mul_mod p q lead ≡ top
quotient_times p top inverse lead q below one e =
    ap (λ n. mul_mod p n lead) e
    ∙ mul-mod_first (top * inverse) lead p
    ∙ ap (λ n. n % p) (mul_assoc top inverse lead ∙ ap (λ n. top * n) (mul_comm inverse lead))
    ∙ sym (mul-mod_second top (lead * inverse) p)
    ∙ ap (λ n. top * n % p) one
    ∙ ap (λ n. n % p) (let same : top * 1 ≡ top = omega arith in same)
    ∙ mod-eq_of_lt below

-- the quotient times the divisor, and what the higher coefficients of the quotient give
pub quotient_cancels : (p row above inverse lead q : ℕ) → 0 < p → mul_mod p lead inverse ≡ 1 → q ≡ mul_mod p (sub_mod p row (above % p)) inverse → (q * lead + above) % p ≡ row % p
quotient_cancels p row above inverse lead q positive one e =
    let top = sub_mod p row (above % p) in
    let below : top < p = mod-lt (row + (p - above % p)) positive in
    ap (λ n. n % p) (add_comm (q * lead) above)
    ∙ sym (add-mod-mod above (q * lead) p)
    ∙ ap (λ n. (above + n) % p) (quotient_times p top inverse lead q below one e)
    ∙ restored p above row positive

-- a dividend whose higher coefficients are those of the product, and the others those of the product and the remainder
pub divided : (p degree n : ℕ) (row product rest : Coefficients) → length rest ≡ min n degree → length row ≡ n → ((k : ℕ) → degree ≤ k → coefficient_at product k % p ≡ coefficient_at row k % p) → (n < degree → (k : ℕ) → coefficient_at product k ≡ 0) → ((k : ℕ) → k < length rest → (coefficient_at product k + coefficient_at rest k) % p ≡ coefficient_at row k % p) → SameUnivariate p row (plus product rest)
divided p degree n row product rest long whole higher none left k = elim (cases_lt k (length rest)) [
  | inl h ↦ sym (left k h) ∙ ap (λ m. m % p) (sym (coefficient_at-plus product rest k))
  | inr h ↦
      let nothing : coefficient_at rest k ≡ 0 = coefficient_past rest k h in
      let same : coefficient_at product k ≡ coefficient_at (plus product rest) k = omega (arith, coefficient_at-plus product rest k) in
      elim (cases_lt k degree) [
        | inl l ↦ ap (λ m. m % p) (coefficient_past row k (omega arith) ∙ sym (none (omega arith) k) ∙ same)
        | inr l ↦ sym (higher k l) ∙ ap (λ m. m % p) same
      ]
]

-- the parts without their zeros at the end
pub division_alike : (p : ℕ) (a b quotient remainder quotient_left remainder_left : Coefficients) → SameUnivariate p a (plus (times quotient b) remainder) → SameUnivariate p quotient_left quotient → SameUnivariate p remainder_left remainder → SameUnivariate p a (plus (times quotient_left b) remainder_left)
division_alike p a b quotient remainder quotient_left remainder_left e f g k =
    e k
    ∙ plus_alike p (times quotient b) (times quotient_left b) remainder remainder_left
    (times_alike_first p quotient quotient_left b (λ j. sym (f j))) (λ j. sym (g j)) k
