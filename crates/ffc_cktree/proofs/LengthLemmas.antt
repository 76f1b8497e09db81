-- Lists that do not end with a 0: the length of a product, and that a sum is no such list where one part is longer.
use Rattle.std.proofs.Common.{◌≡◌, ◌≢◌, inl, inr, ℕ, zero, suc, ◌+◌, ◌-◌, ◌*◌, ◌%◌, ◌<◌, ◌≤◌, Bool, true, false, ◌&&◌, ◌||◌, nat_lt, [], ◌∷◌, length, refl, sym, ap, ap₂, ◌∙◌, arith, mod-eq_of_lt, ltb-true}
use Rattle.std.proofs.Math.Nat.{zero-mod}
use Rattle.std.proofs.lemmas.Bool.{and_parts, or_cases}
use Rattle.ffc_field.specs.Modular.{IsPrime}
use Rattle.ffc_field.proofs.Primes.{no_zero_divisors}
use Rattle.ffc_uni.specs.Univariate.{Coefficients, coefficient_at, SameUnivariate, IsNormal, indeterminate, plus, multiple, times}
use Rattle.ffc_uni.specs.Rows.{leading}
use Rattle.ffc_uni.proofs.Coefficients.{coefficient_at-plus, coefficient_at-multiple}
use Rattle.ffc_uni.proofs.Rows.{leading-nonzero}
use Rattle.ffc_trees.specs.TreeLines.{Factor, Itself, Variable, times_factor}
use Rattle.ffc_cktree.specs.Identities.{is_identity, product_length, multiplied_length, is_one_longer}
use Rattle.ffc_cktree.proofs.RowLemmas.{is_same-same}

past_the_end : (a : Coefficients) (k : ℕ) → length a ≤ k → coefficient_at a k ≡ 0
past_the_end [] k h = refl
past_the_end (c ∷ a) zero h = absurd (omega arith)
past_the_end (c ∷ a) (suc k) h = past_the_end a k (omega arith)

at_end : (c : ℕ) (a : Coefficients) (k : ℕ) → suc k ≡ length (c ∷ a) → coefficient_at (c ∷ a) k ≡ leading (c ∷ a)
at_end c [] zero h = refl
at_end c [] (suc k) h = absurd (omega arith)
at_end c (d ∷ a) zero h = absurd (omega arith)
at_end c (d ∷ a) (suc k) h = at_end d a k (omega arith)

leading_below : (p : ℕ) (a : Coefficients) → IsNormal p a → 1 ≤ length a → leading a < p
leading_below p [] h some = absurd (omega arith)
leading_below p (c ∷ []) h some = h.0
leading_below p (c ∷ d ∷ a) h some = leading_below p (d ∷ a) h.1 (omega arith)

-- ---- the length of a product

none_behind : (a b : Coefficients) (k : ℕ) → length a + length b ≤ suc k → coefficient_at (times a b) k ≡ 0
none_behind [] b k h = refl
none_behind (x ∷ a) b zero h =
    coefficient_at-plus (multiple x b) (0 ∷ times a b) zero
    ∙ omega (arith, coefficient_at-multiple x b zero ∙ ap (λ n. x * n) (past_the_end b zero (omega arith)))
none_behind (x ∷ a) b (suc k) h =
    coefficient_at-plus (multiple x b) (0 ∷ times a b) (suc k)
    ∙ omega (arith, coefficient_at-multiple x b (suc k) ∙ ap (λ n. x * n) (past_the_end b (suc k) (omega arith)), none_behind a b k (omega arith))

times_nothing : (a : Coefficients) (k : ℕ) → coefficient_at (times a []) k ≡ 0
times_nothing [] k = refl
times_nothing (x ∷ a) zero = refl
times_nothing (x ∷ a) (suc k) = times_nothing a k

-- no coefficient of a product is past its length
product_ends : (a b : Coefficients) (k : ℕ) → product_length (length a) (length b) ≤ k → coefficient_at (times a b) k ≡ 0
product_ends [] b k h = refl
product_ends (x ∷ a) [] k h = times_nothing (x ∷ a) k
product_ends (x ∷ a) (y ∷ b) k h = none_behind (x ∷ a) (y ∷ b) k (omega arith)

only_zero : (k : ℕ) → coefficient_at (0 ∷ []) k ≡ 0
only_zero zero = refl
only_zero (suc k) = refl

-- the last one is the product of the last ones
product_top : (a b : Coefficients) (k : ℕ) → 1 ≤ length a → 1 ≤ length b → k + 2 ≡ length a + length b → coefficient_at (times a b) k ≡ leading a * leading b
product_top [] b k h g e = absurd (omega arith)
product_top (x ∷ a) [] k h g e = absurd (omega arith)
product_top (x ∷ []) (y ∷ b) k h g e =
    coefficient_at-plus (multiple x (y ∷ b)) (0 ∷ []) k
    ∙ ap₂ (λ m n. m + n) (coefficient_at-multiple x (y ∷ b) k ∙ ap (λ n. x * n) (at_end y b k (omega arith))) (only_zero k)
    ∙ omega arith
product_top (x ∷ z ∷ a) (y ∷ b) zero h g e = absurd (omega arith)
product_top (x ∷ z ∷ a) (y ∷ b) (suc k) h g e =
    coefficient_at-plus (multiple x (y ∷ b)) (0 ∷ times (z ∷ a) (y ∷ b)) (suc k)
    ∙ ap₂ (λ m n. m + n) (coefficient_at-multiple x (y ∷ b) (suc k) ∙ ap (λ n. x * n) (past_the_end (y ∷ b) (suc k) (omega arith))) (product_top (z ∷ a) (y ∷ b) k (omega arith) (omega arith) (omega arith))
    ∙ omega arith

nonzero_residue : (p n : ℕ) → n < p → n ≢ 0 → n % p ≢ 0
nonzero_residue p n below other e = other (sym (mod-eq_of_lt below) ∙ e)

product_nonzero : (p : ℕ) → IsPrime p → (a b : Coefficients) (k : ℕ) → IsNormal p a → IsNormal p b → suc k ≡ product_length (length a) (length b) → coefficient_at (times a b) k % p ≢ 0
product_nonzero p prime [] b k m n e z = absurd (omega arith)
product_nonzero p prime (x ∷ a) [] k m n e z = absurd (omega arith)
product_nonzero p prime (x ∷ a) (y ∷ b) k m n e z =
    let top = product_top (x ∷ a) (y ∷ b) k (omega arith) (omega arith) (omega arith) in
    elim (no_zero_divisors p prime (leading (x ∷ a)) (leading (y ∷ b)) (ap (λ j. j % p) (sym top) ∙ z)) [
      | inl zero_is ↦ nonzero_residue p (leading (x ∷ a)) (leading_below p (x ∷ a) m (omega arith)) (leading-nonzero p (x ∷ a) m (omega arith)) zero_is
      | inr zero_is ↦ nonzero_residue p (leading (y ∷ b)) (leading_below p (y ∷ b) n (omega arith)) (leading-nonzero p (y ∷ b) n (omega arith)) zero_is
    ]

last_nonzero : (p : ℕ) (a : Coefficients) (k : ℕ) → IsNormal p a → suc k ≡ length a → coefficient_at a k % p ≢ 0
last_nonzero p [] k n e z = absurd (omega arith)
last_nonzero p (x ∷ a) k n e z =
    nonzero_residue p (leading (x ∷ a)) (leading_below p (x ∷ a) n (omega arith)) (leading-nonzero p (x ∷ a) n (omega arith)) (ap (λ j. j % p) (sym (at_end x a k e)) ∙ z)

-- ---- one part that is longer

unless : (b : Bool) → (b ≡ true → ⊥) → b ≡ false
unless true h = absurd (h refl)
unless false h = refl

before_end : (m n : ℕ) → m < n → suc (n - 1) ≡ n
before_end m n h = omega arith

module _ (p : ℕ) (prime : IsPrime p) (f r quotient rest : Coefficients) (f_is : IsNormal p f) (r_is : IsNormal p r) (quotient_is : IsNormal p quotient) (rest_is : IsNormal p rest) where
  left_ends : (factor : Factor) (k : ℕ) → multiplied_length factor (length r) ≤ k → coefficient_at (times_factor factor r) k ≡ 0
  left_ends Itself k h = product_ends r r k h
  left_ends Variable k h = product_ends indeterminate r k h

  left_nonzero : (factor : Factor) (k : ℕ) → suc k ≡ multiplied_length factor (length r) → coefficient_at (times_factor factor r) k % p ≢ 0
  left_nonzero Itself k h = product_nonzero p prime r r k r_is r_is h
  left_nonzero Variable k h = product_nonzero p prime indeterminate r k (omega (arith, prime.least), (omega (arith, prime.least), λ e. absurd (omega (arith, e)))) r_is h

  module _ (factor : Factor) where
    right_at : (k : ℕ) → coefficient_at (plus (times quotient f) rest) k ≡ coefficient_at (times quotient f) k + coefficient_at rest k
    right_at k = coefficient_at-plus (times quotient f) rest k

    both_end : (k : ℕ) → product_length (length quotient) (length f) ≤ k → length rest ≤ k → coefficient_at (plus (times quotient f) rest) k ≡ 0
    both_end k m n = right_at k ∙ ap₂ (λ i j. i + j) (product_ends quotient f k m) (past_the_end rest k n)

    -- the last coefficient of the part that is longer is not 0, and the others have none there
    longer_differs : is_one_longer (multiplied_length factor (length r)) (product_length (length quotient) (length f)) (length rest) ≡ true
        → SameUnivariate p (times_factor factor r) (plus (times quotient f) rest) → ⊥
    longer_differs long same =
        let a = multiplied_length factor (length r) in
        let b = product_length (length quotient) (length f) in
        let c = length rest in
        elim (or_cases ((nat_lt b a && nat_lt c a) || (nat_lt a b && nat_lt c b)) (nat_lt a c && nat_lt b c) long) [
          | inl two ↦
              elim (or_cases (nat_lt b a && nat_lt c a) (nat_lt a b && nat_lt c b) two) [
                | inl is ↦
                    let parts = and_parts (nat_lt b a) (nat_lt c a) is in
                    let m : b < a = ltb-true b a parts.0 in
                    let n : c < a = ltb-true c a parts.1 in
                    left_nonzero factor (a - 1) (before_end b a m)
                    (same (a - 1) ∙ ap (λ j. j % p) (both_end (a - 1) (omega arith) (omega arith)) ∙ zero-mod p)
                | inr is ↦
                    let parts = and_parts (nat_lt a b) (nat_lt c b) is in
                    let m : a < b = ltb-true a b parts.0 in
                    let n : c < b = ltb-true c b parts.1 in
                    let alone : coefficient_at (plus (times quotient f) rest) (b - 1) ≡ coefficient_at (times quotient f) (b - 1) =
                    right_at (b - 1) ∙ ap (λ j. coefficient_at (times quotient f) (b - 1) + j) (past_the_end rest (b - 1) (omega arith)) ∙ omega arith in
                    product_nonzero p prime quotient f (b - 1) quotient_is f_is (before_end a b m)
                    (ap (λ j. j % p) (sym alone) ∙ sym (same (b - 1)) ∙ ap (λ j. j % p) (left_ends factor (b - 1) (omega arith)) ∙ zero-mod p)
              ]
          | inr is ↦
              let parts = and_parts (nat_lt a c) (nat_lt b c) is in
              let m : a < c = ltb-true a c parts.0 in
              let n : b < c = ltb-true b c parts.1 in
              let alone : coefficient_at (plus (times quotient f) rest) (c - 1) ≡ coefficient_at rest (c - 1) =
              right_at (c - 1) ∙ ap (λ j. j + coefficient_at rest (c - 1)) (product_ends quotient f (c - 1) (omega arith)) ∙ omega arith in
              last_nonzero p rest (c - 1) rest_is (before_end a c m)
              (ap (λ j. j % p) (sym alone) ∙ sym (same (c - 1)) ∙ ap (λ j. j % p) (left_ends factor (c - 1) (omega arith)) ∙ zero-mod p)
        ]

    pub no_identity_of_longer : is_one_longer (multiplied_length factor (length r)) (product_length (length quotient) (length f)) (length rest) ≡ true
        → is_identity p f factor r quotient rest ≡ false
    no_identity_of_longer long =
        unless (is_identity p f factor r quotient rest) (λ is. longer_differs long (is_same-same p (times_factor factor r) (plus (times quotient f) rest) is))
