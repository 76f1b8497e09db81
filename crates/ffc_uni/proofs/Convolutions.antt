-- The coefficients of products as sums of products of coefficients.
use Rattle.std.proofs.Common.{◌≡◌, ℕ, zero, suc, ◌+◌, ◌-◌, ◌*◌, ◌%◌, ◌<◌, ◌≤◌, inl, inr, List, [], ◌∷◌, ◌++◌, length, get_or, map, drop, set, refl, sym, ap, ap₂, ◌∙◌, arith, mul_comm}
use Rattle.std.proofs.lemmas.Bool.{cases_lt}
use Rattle.std.proofs.lemmas.List.{drop_all, drop-map, drop-set-lt}
use Rattle.std.proofs.Math.Nat.{mod-mod, add-mod-mod, mod-add-mod}
use Rattle.std.proofs.lemmas.Nat.{mul-mod}
use Rattle.ffc_field.specs.Modular.{add_mod, mul_mod}
use Rattle.ffc_uni.specs.Rows.{leading, shifted}
use Rattle.ffc_uni.specs.Univariate.{Coefficients, SameUnivariate, coefficient_at, multiple, plus, times}
use Rattle.ffc_uni.proofs.Coefficients.{coefficient_at-plus, coefficient_at-multiple, coefficient_at-shifted_zero}

-- ---- coefficients of lists

pub coefficient_past : (a : Coefficients) (k : ℕ) → length a ≤ k → coefficient_at a k ≡ 0
coefficient_past [] k h = refl
coefficient_past (x ∷ a) zero h = absurd (omega arith)
coefficient_past (x ∷ a) (suc k) h = coefficient_past a k (omega arith)

pub coefficient_leading : (a : Coefficients) (n : ℕ) → suc n ≡ length a → coefficient_at a n ≡ leading a
coefficient_leading [] n h = absurd (omega arith)
coefficient_leading (x ∷ []) zero h = refl
coefficient_leading (x ∷ []) (suc n) h = absurd (omega arith)
coefficient_leading (x ∷ y ∷ a) zero h = absurd (omega arith)
coefficient_leading (x ∷ y ∷ a) (suc n) h = coefficient_leading (y ∷ a) n (omega arith)

module _ {F : Type 0} (value : F → ℕ) where
  pub coefficient_read : (xs : List F) (i : ℕ) (x : F) → i < length xs → x ≡ get_or xs i x → coefficient_at (map value xs) i ≡ value x
  coefficient_read [] i x h e = absurd (omega arith)
  coefficient_read (y ∷ ys) zero x h e = ap value (sym e)
  coefficient_read (y ∷ ys) (suc i) x h e = coefficient_read ys i x (omega arith) e

  -- one coefficient more after those of a function of the place
  pub coefficients_pushed : (xs : List F) (x : F) (t : ℕ → ℕ) → ((k : ℕ) → k < length xs → coefficient_at (map value xs) k ≡ t k) → value x ≡ t (length xs) → (k : ℕ) → k < length xs + 1 → coefficient_at (map value (xs ++ x ∷ [])) k ≡ t k
  coefficients_pushed [] x t so_far e zero h = e
  coefficients_pushed [] x t so_far e (suc k) h = absurd (omega arith)
  coefficients_pushed (y ∷ ys) x t so_far e zero h = so_far 0 (omega arith)
  coefficients_pushed (y ∷ ys) x t so_far e (suc k) h = coefficients_pushed ys x (λ j. t (suc j)) (λ j l. so_far (suc j) (omega arith)) e k (omega arith)

-- a list of residues that has the coefficients of a polynomial, which has no others
pub same_by_coefficients : (p n : ℕ) (a b : Coefficients) → length a ≡ n → ((k : ℕ) → k < n → coefficient_at a k ≡ coefficient_at b k % p) → ((k : ℕ) → n ≤ k → coefficient_at b k ≡ 0) → SameUnivariate p a b
same_by_coefficients p n a b long within past k = elim (cases_lt k n) [
  | inl h ↦ ap (λ m. m % p) (within k h) ∙ mod-mod (coefficient_at b k) p
  | inr h ↦ ap (λ m. m % p) (coefficient_past a k (omega arith) ∙ sym (past k h))
]

-- ---- products

pub shifted_before : (n : ℕ) (a : Coefficients) (k : ℕ) → k < n → coefficient_at (shifted n a) k ≡ 0
shifted_before zero a k h = absurd (omega arith)
shifted_before (suc n) a zero h = refl
shifted_before (suc n) a (suc k) h = shifted_before n a k (omega arith)

-- the product with the coefficient at a place of the first factor, and those with what is after it
pub product_next : (i : ℕ) (a b : Coefficients) (k : ℕ) → i ≤ k → coefficient_at (shifted i (times (drop i a) b)) k ≡ coefficient_at a i * coefficient_at b (k - i) + coefficient_at (shifted (suc i) (times (drop (suc i) a) b)) k
product_next zero [] b k h = omega (arith, coefficient_at-shifted_zero 1 k)
product_next zero (x ∷ a) b k h =
    let first : coefficient_at (multiple x b) k ≡ x * coefficient_at b (k - 0) = coefficient_at-multiple x b k ∙ ap (λ n. x * coefficient_at b n) (omega arith) in
    coefficient_at-plus (multiple x b) (0 ∷ times a b) k ∙ ap (λ n. n + coefficient_at (0 ∷ times a b) k) first
product_next (suc i) [] b k h = omega (arith, coefficient_at-shifted_zero (suc i) k, coefficient_at-shifted_zero (suc (suc i)) k)
product_next (suc i) (x ∷ a) b zero h = absurd (omega arith)
product_next (suc i) (x ∷ a) b (suc k) h =
    let same : k - i ≡ suc k - suc i = omega arith in
    product_next i a b k (omega arith)
    ∙ ap (λ n. coefficient_at a i * coefficient_at b n + coefficient_at (shifted (suc i) (times (drop (suc i) a) b)) k) same

-- the first coefficients give nothing where the second factor is too short for them
pub product_from : (i : ℕ) (a b : Coefficients) (k : ℕ) → 1 ≤ length b → i + length b ≤ k + 1 → coefficient_at (shifted i (times (drop i a) b)) k ≡ coefficient_at (times a b) k
product_from zero a b k some h = refl
product_from (suc i) [] b k some h = coefficient_at-shifted_zero (suc i) k
product_from (suc i) (x ∷ a) b zero some h = absurd (omega arith)
product_from (suc i) (x ∷ a) b (suc k) some h =
    let none : coefficient_at (multiple x b) (suc k) ≡ 0 = coefficient_at-multiple x b (suc k) ∙ ap (λ n. x * n) (coefficient_past b (suc k) (omega arith)) ∙ omega arith in
    let sum : coefficient_at (plus (multiple x b) (0 ∷ times a b)) (suc k) ≡ coefficient_at (multiple x b) (suc k) + coefficient_at (times a b) k = coefficient_at-plus (multiple x b) (0 ∷ times a b) (suc k) in
    let same : coefficient_at (times a b) k ≡ coefficient_at (plus (multiple x b) (0 ∷ times a b)) (suc k) = omega (arith, none, sum) in
    product_from i a b k some (omega arith) ∙ same

-- the same from the first place that the second factor reaches
pub product_whole : (a b : Coefficients) (k i : ℕ) → 1 ≤ length b → i ≡ k - (length b - 1) → coefficient_at (shifted i (times (drop i a) b)) k ≡ coefficient_at (times a b) k
product_whole a b k zero some e = refl
product_whole a b k (suc i) some e = product_from (suc i) a b k some (omega arith)

-- a product has no coefficients past its degree
pub product_past : (a b : Coefficients) (k : ℕ) → 1 ≤ length b → length a + length b ≤ k + 1 → coefficient_at (times a b) k ≡ 0
product_past a b k some h =
    sym (product_from (length a) a b k some h)
    ∙ ap (λ l. coefficient_at (shifted (length a) (times l b)) k) (drop_all (length a) a (omega arith))
    ∙ coefficient_at-shifted_zero (length a) k

-- the products on both sides of a place
pub product_in_two : (a b : Coefficients) (k i : ℕ) → i ≤ k + 1 → coefficient_at (times a b) k ≡ coefficient_at (shifted i (times (drop i a) b)) k + coefficient_at (shifted (k + 1 - i) (times (drop (k + 1 - i) b) a)) k
product_in_two a b k zero h = omega (arith, shifted_before (k + 1 - 0) (times (drop (k + 1 - 0) b) a) k (omega arith))
product_in_two a b k (suc i) h =
    let j = k + 1 - suc i in
    let after : k + 1 - i ≡ suc j = omega arith in
    let back : k - j ≡ i = omega arith in
    let there : k - i ≡ j = omega arith in
    let first = product_next i a b k (omega arith) in
    let second = product_next j b a k (omega arith) in
    let whole = product_in_two a b k i (omega arith) in
    let turned : coefficient_at b j * coefficient_at a (k - j) ≡ coefficient_at a i * coefficient_at b (k - i) =
    ap (λ n. coefficient_at b j * coefficient_at a n) back ∙ mul_comm (coefficient_at b j) (coefficient_at a i) ∙ ap (λ n. coefficient_at a i * coefficient_at b n) (sym there) in
    let later : coefficient_at (shifted (k + 1 - i) (times (drop (k + 1 - i) b) a)) k ≡ coefficient_at (shifted (suc j) (times (drop (suc j) b) a)) k =
    ap (λ n. coefficient_at (shifted n (times (drop n b) a)) k) after in
    omega (arith, first, second, whole, turned, later)

-- a square: what is above the middle counts twice
pub square_even : (a : Coefficients) (k m : ℕ) → k ≡ 2 * m → coefficient_at (times a a) k ≡ 2 * coefficient_at (shifted (m + 1) (times (drop (m + 1) a) a)) k + coefficient_at a m * coefficient_at a m
square_even a k m e =
    let whole = product_in_two a a k (m + 1) (omega arith) in
    let half : k + 1 - (m + 1) ≡ m = omega arith in
    let back : k - m ≡ m = omega arith in
    let next : suc m ≡ m + 1 = omega arith in
    let below : coefficient_at (shifted (k + 1 - (m + 1)) (times (drop (k + 1 - (m + 1)) a) a)) k ≡ coefficient_at (shifted m (times (drop m a) a)) k =
    ap (λ n. coefficient_at (shifted n (times (drop n a) a)) k) half in
    let middle : coefficient_at (shifted m (times (drop m a) a)) k ≡ coefficient_at a m * coefficient_at a m + coefficient_at (shifted (m + 1) (times (drop (m + 1) a) a)) k =
    product_next m a a k (omega arith)
    ∙ ap₂ (λ n i. coefficient_at a m * coefficient_at a n + coefficient_at (shifted i (times (drop i a) a)) k) back next in
    omega (arith, whole, below, middle)

pub square_odd : (a : Coefficients) (k m : ℕ) → k ≡ 2 * m + 1 → coefficient_at (times a a) k ≡ 2 * coefficient_at (shifted (m + 1) (times (drop (m + 1) a) a)) k
square_odd a k m e =
    let whole = product_in_two a a k (m + 1) (omega arith) in
    let half : k + 1 - (m + 1) ≡ m + 1 = omega arith in
    let below : coefficient_at (shifted (k + 1 - (m + 1)) (times (drop (k + 1 - (m + 1)) a) a)) k ≡ coefficient_at (shifted (m + 1) (times (drop (m + 1) a) a)) k =
    ap (λ n. coefficient_at (shifted n (times (drop n a) a)) k) half in
    omega (arith, whole, below)

pub times_nothing : (a : Coefficients) (k : ℕ) → coefficient_at (times a []) k ≡ 0
times_nothing [] k = refl
times_nothing (x ∷ a) zero = refl
times_nothing (x ∷ a) (suc k) = times_nothing a k

-- ---- numbers modulo p

-- q is 2^32: the word and what is above it
pub in_words : (p w r q : ℕ) → add_mod p (w % p) (mul_mod p (mul_mod p (q % p) (q % p)) (r % p)) ≡ (w + q * q * r) % p
in_words p w r q =
    ap (λ n. add_mod p (w % p) (mul_mod p n (r % p))) (sym (mul-mod q q p))
    ∙ ap (λ n. add_mod p (w % p) n) (sym (mul-mod (q * q) r p))
    ∙ add-mod-mod (w % p) (q * q * r) p
    ∙ mod-add-mod w p (q * q * r)

-- a sum that is doubled, and a square that is added
pub doubled : (p t : ℕ) → add_mod p (t % p) (t % p) ≡ (2 * t) % p
doubled p t = add-mod-mod (t % p) t p ∙ mod-add-mod t p t ∙ ap (λ n. n % p) (let same : t + t ≡ 2 * t = omega arith in same)

pub doubled_with : (p t x : ℕ) → add_mod p (add_mod p (t % p) (t % p)) (mul_mod p x x) ≡ (2 * t + x * x) % p
doubled_with p t x =
    ap (λ n. add_mod p n (mul_mod p x x)) (doubled p t)
    ∙ add-mod-mod ((2 * t) % p) (x * x) p
    ∙ mod-add-mod (2 * t) p (x * x)

-- ---- a coefficient that is written

module _ {F : Type 0} (value : F → ℕ) where
  pub unwritten : (xs : List F) (i j : ℕ) (y : F) → i < j → drop j (map value (set xs i y)) ≡ drop j (map value xs)
  unwritten xs i j y h = drop-map value j (set xs i y) ∙ ap (map value) (drop-set-lt j xs i y h) ∙ sym (drop-map value j xs)

  written : (xs : List F) (i : ℕ) (y : F) → i < length xs → coefficient_at (map value (set xs i y)) i ≡ value y
  written [] i y h = absurd (omega arith)
  written (x ∷ xs) zero y h = refl
  written (x ∷ xs) (suc i) y h = written xs i y (omega arith)

  -- what it adds to the coefficient of a product
  pub product_written : (xs : List F) (b : Coefficients) (i d : ℕ) (y : F) → i < length xs → coefficient_at (shifted i (times (drop i (map value (set xs i y))) b)) (i + d) ≡ value y * coefficient_at b d + coefficient_at (shifted (i + 1) (times (drop (i + 1) (map value xs)) b)) (i + d)
  product_written xs b i d y h =
      let there : i + d - i ≡ d = omega arith in
      let next : suc i ≡ i + 1 = omega arith in
      product_next i (map value (set xs i y)) b (i + d) (omega arith)
      ∙ ap₂ (λ m n. m * coefficient_at b n + coefficient_at (shifted (suc i) (times (drop (suc i) (map value (set xs i y))) b)) (i + d)) (written xs i y h) there
      ∙ ap (λ l. value y * coefficient_at b d + coefficient_at (shifted (suc i) (times l b)) (i + d)) (unwritten xs i (suc i) y (omega arith))
      ∙ ap (λ n. value y * coefficient_at b d + coefficient_at (shifted n (times (drop n (map value xs)) b)) (i + d)) next
