-- The binary digits of a number spell it.
use Rattle.std.proofs.Common.{◌≡◌, ℕ, zero, suc, ◌+◌, ◌-◌, ◌*◌, ◌/◌, ◌%◌, ◌^◌, ◌==◌, ◌<◌, ◌≤◌, Bool, true, false, List, [], ◌∷◌, length, refl, sym, ap, ◌∙◌, arith, inl, inr, eq-eqb, ne_eqb, mod-lt}
use Rattle.std.proofs.Math.Nat.{pow-zero, pow-succ', mod-one, mod-eq_of_lt, pow-le-pow_right}
use Rattle.std.proofs.lemmas.Nat.{mod-pow-add, pow_pos, le-div, div_below}
use Rattle.std.proofs.lemmas.Bool.{cases_eq}
use Rattle.ffc_uni.specs.Chains.{binary, behind_first, digits_of, pairs_over, pair_count}

abbrev pub digit_value : Bool → ℕ
digit_value false = 0
digit_value true = 1

-- the number that these digits make after those of e
abbrev pub spelled : ℕ → List Bool → ℕ
spelled e [] = e
spelled e (d ∷ ds) = spelled (2 * e + digit_value d) ds

pub digit_value-test : (n : ℕ) → n < 2 → digit_value (n == 1) ≡ n
digit_value-test n below =
    elim (cases_eq n 1) [
      | inl one ↦ ap digit_value (eq-eqb n 1 one) ∙ sym one
      | inr other ↦ ap digit_value (ne_eqb n 1 other) ∙ (let none : 0 ≡ n = omega arith in none)
    ]

spelled-binary : (n e m : ℕ) → spelled e (binary n m) ≡ e * 2 ^ n + m % 2 ^ n
spelled-binary zero e m = omega (arith, pow-zero 2, ap (λ k. m % k) (pow-zero 2), mod-one m)
spelled-binary (suc n) e m =
    let digit : digit_value (m / 2 ^ n % 2 == 1) ≡ m / 2 ^ n % 2 = digit_value-test (m / 2 ^ n % 2) (mod-lt (m / 2 ^ n) (omega arith))
    in let double : e * 2 ^ suc n ≡ 2 * e * 2 ^ n = omega (arith, ap (λ k. e * k) (pow-succ' 2 n))
    in let split : m % 2 ^ suc n ≡ m / 2 ^ n % 2 * 2 ^ n + m % 2 ^ n =
    ap (λ k. m % 2 ^ k) (let same : suc n ≡ 1 + n = omega arith in same) ∙ mod-pow-add m 1 n
    in spelled-binary n (2 * e + digit_value (m / 2 ^ n % 2 == 1)) m
    ∙ ap (λ k. (2 * e + k) * 2 ^ n + m % 2 ^ n) digit
    ∙ omega arith

-- what comes after the first 1 spells the same, from 1 on
spelled-behind_first : (ds : List Bool) → 0 < spelled 0 ds → spelled 1 (behind_first ds) ≡ spelled 0 ds
spelled-behind_first [] some = absurd (omega arith)
spelled-behind_first (false ∷ ds) some = spelled-behind_first ds some
spelled-behind_first (true ∷ ds) some = refl

pub spelled-digits_of : (p : ℕ) → 0 < p → p < 2 ^ 64 → spelled 1 (digits_of p) ≡ p
unfolding digits_of
spelled-digits_of p positive fits =
    let whole : (n : ℕ) → p < 2 ^ n → spelled 1 (behind_first (binary n p)) ≡ p = λ n below.
    let same : spelled 0 (binary n p) ≡ p =
    spelled-binary n 0 p ∙ (let rest : 0 * 2 ^ n + p % 2 ^ n ≡ p % 2 ^ n = omega arith in rest) ∙ mod-eq_of_lt below
    in spelled-behind_first (binary n p) (omega arith) ∙ same
    in whole 64 fits

-- the digits of a number between 2^n and 2^(n + 1), with any number of zeros in front
behind_first-binary : (k n p : ℕ) → 2 ^ n ≤ p → p < 2 ^ suc n → behind_first (binary (k + suc n) p) ≡ binary n p
behind_first-binary zero n p high low =
    let least : 1 ≤ p / 2 ^ n = le-div 1 p (2 ^ n) (pow_pos n) (omega arith)
    in let most : p / 2 ^ n < 2 = div_below p (2 ^ n) 2 (pow_pos n) (omega (arith, pow-succ' 2 n))
    in let one : p / 2 ^ n % 2 ≡ 1 = omega arith
    in ap (λ k. behind_first (binary k p)) (let same : 0 + suc n ≡ suc n = omega arith in same)
    ∙ ap (λ d. behind_first (d ∷ binary n p)) (eq-eqb (p / 2 ^ n % 2) 1 one)
behind_first-binary (suc k) n p high low =
    let above : 2 ^ suc n ≤ 2 ^ (k + suc n) = pow-le-pow_right (omega arith) (omega arith)
    in let most : p / 2 ^ (k + suc n) < 1 = div_below p (2 ^ (k + suc n)) 1 (pow_pos (k + suc n)) (omega arith)
    in let none : p / 2 ^ (k + suc n) % 2 ≡ 0 = omega arith
    in ap (λ m. behind_first (binary m p)) (let same : suc k + suc n ≡ suc (k + suc n) = omega arith in same)
    ∙ ap (λ d. behind_first (d ∷ binary (k + suc n) p)) (ne_eqb (p / 2 ^ (k + suc n) % 2) 1 (omega arith))
    ∙ behind_first-binary k n p high low

-- the digits after the first, where that is the one of 2^n
pub digits_of-from : (n p : ℕ) → n < 64 → 2 ^ n ≤ p → p < 2 ^ suc n → digits_of p ≡ binary n p
unfolding digits_of
digits_of-from n p small high low =
    ap (λ k. behind_first (binary k p)) (let same : 64 ≡ 63 - n + suc n = omega arith in same)
    ∙ behind_first-binary (63 - n) n p high low

-- ---- how many pairs there are

pairs_over-le : (ds : List Bool) → pairs_over ds ≤ 2 * length ds
pairs_over-le [] = omega arith
pairs_over-le (false ∷ ds) = omega (arith, pairs_over-le ds)
pairs_over-le (true ∷ ds) = omega (arith, pairs_over-le ds)

length-binary : (n m : ℕ) → length (binary n m) ≡ n
length-binary zero m = refl
length-binary (suc n) m = omega (arith, length-binary n m)

length-behind_first : (ds : List Bool) → length (behind_first ds) ≤ length ds - 1
length-behind_first [] = omega arith
length-behind_first (false ∷ ds) = omega (arith, length-behind_first ds)
length-behind_first (true ∷ ds) = omega arith

pub few_pairs : (p : ℕ) → pair_count p ≤ 126
unfolding digits_of
few_pairs p =
    let most : (n : ℕ) → pairs_over (behind_first (binary n p)) ≤ 2 * (n - 1) = λ n.
    omega (arith, pairs_over-le (behind_first (binary n p)), length-behind_first (binary n p), length-binary n p)
    in most 64
