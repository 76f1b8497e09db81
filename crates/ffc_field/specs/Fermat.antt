-- What primality gives: no zero divisors (Euclid, Elements VII.30), Fermat's theorem (1640), and inverses as powers.
-- The proof of Fermat's theorem is the one by binomial coefficients (Euler 1736).
use Rattle.std.proofs.Common.{◌≡◌, ℕ, zero, suc, ◌+◌, ◌-◌, ◌*◌, ◌/◌, ◌%◌, ◌^◌, ◌<◌, ◌≤◌, ◌⊎◌, inl, inr, refl, sym, ap, ap₂, ◌∙◌, arith, subst, add-one}
use Rattle.std.proofs.Math.Nat.{mod-lt, mod-add-mod, add-mod-mod, add-mod, mod-eq_of_lt, mod_self, zero-mod, div-add-mod, mul-mod_right, pow-zero, pow-succ', mul_comm, zero-mul, one-le-pow, add_comm, add_assoc, add-zero, mul-zero}
use Rattle.std.proofs.lemmas.Nat.{mul-mod_first, mul-mod_second}
use Rattle.std.proofs.lemmas.Bool.{cases_eq}
use Rattle.ffc_field.specs.Modular.{IsPrime, mul_mod, pow_mod}
use Rattle.ffc_field.specs.Binomial.{choose, terms, choose-none, choose-all, choose-absorb, binomial}

-- ---- numbers that p divides

-- what is left of a sum that p divides, without a part that p divides
pub zero_left : (p x y : ℕ) → y % p ≡ 0 → (x + y) % p ≡ 0 → x % p ≡ 0
zero_left p x y part whole =
    ap (λ n. n % p) (sym (add-zero x))
    ∙ ap (λ n. (x + n) % p) (sym part)
    ∙ add-mod-mod x y p
    ∙ whole

-- a multiple of a number that p divides
pub zero_multiple : (p x y : ℕ) → y % p ≡ 0 → (x * y) % p ≡ 0
zero_multiple p x y part =
    sym (mul-mod_second x y p)
    ∙ ap (λ n. (x * n) % p) part
    ∙ ap (λ n. n % p) (mul-zero x)
    ∙ zero-mod p

-- ---- no zero divisors

-- Euclid's step: p * b - (p / a) * a * b is the product of b and a smaller number, p % a.
smaller : (p a b : ℕ) → (a * b) % p ≡ 0 → (p % a * b) % p ≡ 0
smaller p a b product =
    let parts : p % a * b + p / a * (a * b) ≡ p * b = omega (arith, ap (λ n. n * b) (div-add-mod p a))
    in zero_left p (p % a * b) (p / a * (a * b)) (zero_multiple p (p / a) (a * b) product)
    (ap (λ n. n % p) parts ∙ mul-mod_right p b)

no_zero_divisors_within : (p : ℕ) → IsPrime p → (most a b : ℕ) →
    a ≤ most → 0 < a → a < p → (a * b) % p ≡ 0 → b % p ≡ 0
no_zero_divisors_within p prime zero a b within positive below product = absurd (omega arith)
no_zero_divisors_within p prime (suc most) a b within positive below product =
    let remainder_below : p % a < a = mod-lt p positive
    in elim (cases_eq a 1) [
      | inl one ↦ ap (λ n. n % p) (let same : b ≡ a * b = rw one (omega arith) in same) ∙ product
      | inr more ↦ elim (cases_eq (p % a) 0) [
        | inl divides ↦ absurd (prime.undivided a (p / a) (omega arith) below (omega (arith, div-add-mod p a)))
        | inr rest ↦
            no_zero_divisors_within p prime most (p % a) b (omega arith) (omega arith) (omega arith)
            (smaller p a b product)
      ]
    ]

-- If p divides a product, it divides one of the factors (Euclid).
pub no_zero_divisors : (p : ℕ) → IsPrime p → (a b : ℕ) → (a * b) % p ≡ 0 → (a % p ≡ 0) ⊎ (b % p ≡ 0)
no_zero_divisors p prime a b product =
    elim (cases_eq (a % p) 0) [
      | inl divided ↦ inl divided
      | inr rest ↦ inr (
          let positive : 0 < p = omega (arith, prime.least)
          in no_zero_divisors_within p prime (a % p) (a % p) b (omega arith) (omega arith) (mod-lt a positive)
          (mul-mod_first a b p ∙ product))
    ]

-- ---- Fermat's theorem

choose-multiple : (n k : ℕ) → (suc k * choose (suc n) (suc k)) % suc n ≡ 0
choose-multiple n k = ap (λ m. m % suc n) (choose-absorb n k) ∙ mul-mod_right (suc n) (choose n k)

-- p divides each binomial coefficient of p but the first and the last.
choose-zero : (p : ℕ) → IsPrime p → (k : ℕ) → suc k < p → choose p (suc k) % p ≡ 0
choose-zero zero prime k below = absurd (omega arith)
choose-zero (suc n) prime k below =
    elim (no_zero_divisors (suc n) prime (suc k) (choose (suc n) (suc k)) (choose-multiple n k)) [
      | inl factor ↦ absurd (omega (arith, factor, mod-eq_of_lt below))
      | inr coefficient ↦ coefficient
    ]

term-zero : (p : ℕ) → IsPrime p → (m x : ℕ) → suc m < p → (choose p (suc m) * x ^ suc m) % p ≡ 0
term-zero p prime m x below =
    ap (λ n. n % p) (mul_comm (choose p (suc m)) (x ^ suc m))
    ∙ zero_multiple p (x ^ suc m) (choose p (suc m)) (choose-zero p prime m below)

-- so the first terms of (x + 1)^p leave 1
terms-one : (p : ℕ) → IsPrime p → (m x : ℕ) → m < p → terms p (suc m) x % p ≡ 1
unfolding terms
terms-one p prime zero x below =
    ap (λ n. n % p) (let first : terms p 1 x ≡ 1 = rw (choose-none p, pow-zero x) refl in first)
    ∙ mod-eq_of_lt (let two : 1 < p = prime.least in two)
terms-one p prime (suc m) x below =
    sym (add-mod-mod (terms p (suc m) x) (choose p (suc m) * x ^ suc m) p)
    ∙ ap (λ n. (terms p (suc m) x + n) % p) (term-zero p prime m x below)
    ∙ ap (λ n. n % p) (add-zero (terms p (suc m) x))
    ∙ terms-one p prime m x (omega arith)

fermat_suc : (n x : ℕ) → IsPrime (suc n) →
    x ^ suc n % suc n ≡ x % suc n → (x + 1) ^ suc n % suc n ≡ (x + 1) % suc n
unfolding terms
fermat_suc n x prime before =
    let p : ℕ = suc n
    in let sum : (x + 1) ^ p ≡ terms p p x + choose p p * x ^ p = sym (binomial p x)
    in let last : choose p p * x ^ p ≡ x ^ p = rw (choose-all p) (omega arith)
    in ap (λ m. m % p) (sum ∙ ap (λ m. terms p p x + m) last)
    ∙ add-mod (terms p p x) (x ^ p) p
    ∙ ap₂ (λ a b. (a + b) % p) (terms-one p prime n x (omega arith)) before
    ∙ add-mod-mod 1 x p
    ∙ ap (λ m. m % p) (add_comm 1 x)

-- x ^ p leaves what x leaves (Fermat).
pub fermat : (p : ℕ) → IsPrime p → (x : ℕ) → x ^ p % p ≡ x % p
fermat zero prime x = absurd (omega (arith, prime.least))
fermat (suc n) prime zero = ap (λ m. m % suc n) (pow-succ' 0 n ∙ zero-mul (0 ^ n))
fermat (suc n) prime (suc x) =
    let P : ℕ → Type 0 = λ y. y ^ suc n % suc n ≡ y % suc n
    in subst P (add-one x) (fermat_suc n x prime (fermat (suc n) prime x))

-- what is left of a sum that leaves one of its parts
zero_rest : (p u x : ℕ) → 0 < p → (u + x) % p ≡ x % p → u % p ≡ 0
zero_rest p u x positive same =
    let complement : ℕ = p - x % p
    in let whole : x % p + complement ≡ p = omega (arith, mod-lt x positive)
    in let all : (x % p + complement) % p ≡ 0 = ap (λ n. n % p) whole ∙ mod_self p
    in let part : (x + complement) % p ≡ 0 = sym (mod-add-mod x p complement) ∙ all
    in zero_left p u (x + complement) part
    (ap (λ n. n % p) (sym (add_assoc u x complement))
    ∙ sym (mod-add-mod (u + x) p complement)
    ∙ ap (λ n. (n + complement) % p) same
    ∙ all)

-- a number that p does not divide is not 0
pub positive_from_rest : (p x : ℕ) → (x % p ≡ 0 → ⊥) → 0 < x
positive_from_rest p zero rest = absurd (rest (zero-mod p))
positive_from_rest p (suc x) rest = omega arith

-- x * y leaves x only where y leaves 1
one_from_same : (p : ℕ) → IsPrime p → (x y : ℕ) →
    (x % p ≡ 0 → ⊥) → 0 < y → (x * y) % p ≡ x % p → y % p ≡ 1
one_from_same p prime x y rest positive same =
    let nonzero : 0 < p = omega (arith, prime.least)
    in let split : y - 1 + 1 ≡ y = omega arith
    in let product : x * (y - 1) + x ≡ x * y = omega (arith, ap (λ m. x * m) split)
    in let left : (x * (y - 1) + x) % p ≡ x % p = ap (λ m. m % p) product ∙ same
    in let multiple : (x * (y - 1)) % p ≡ 0 = zero_rest p (x * (y - 1)) x nonzero left
    in elim (no_zero_divisors p prime x (y - 1) multiple) [
      | inl divided ↦ absurd (rest divided)
      | inr one ↦
          ap (λ m. m % p) (sym split)
          ∙ sym (mod-add-mod (y - 1) p 1)
          ∙ ap (λ m. (m + 1) % p) one
          ∙ mod-eq_of_lt (let two : 1 < p = prime.least in two)
    ]

-- x ^ (p - 1) leaves 1 where p does not divide x.
pub fermat_one : (p : ℕ) → IsPrime p → (x : ℕ) → (x % p ≡ 0 → ⊥) → x ^ (p - 1) % p ≡ 1
fermat_one p prime x rest =
    let next : suc (p - 1) ≡ p = omega (arith, prime.least)
    in one_from_same p prime x (x ^ (p - 1)) rest (one-le-pow (p - 1) x (positive_from_rest p x rest))
    (ap (λ m. m % p) (sym (pow-succ' x (p - 1)) ∙ ap (λ e. x ^ e) next) ∙ fermat p prime x)

-- x ^ (p - 2) is the inverse of x.
pub power_inverse : (p : ℕ) → IsPrime p → (x : ℕ) →
    (x % p ≡ 0 → ⊥) → mul_mod p x (pow_mod p x (p - 2)) ≡ 1
power_inverse p prime x rest =
    mul-mod_second x (x ^ (p - 2)) p
    ∙ ap (λ n. n % p) (sym (pow-succ' x (p - 2)))
    ∙ ap (λ e. x ^ e % p) (let same : suc (p - 2) ≡ p - 1 = omega (arith, prime.least) in same)
    ∙ fermat_one p prime x rest
