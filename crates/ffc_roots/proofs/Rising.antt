-- Residues that increase, and products of factors X - root over them.
use Rattle.std.proofs.Common.{◌≡◌, ℕ, zero, suc, ◌%◌, ◌<◌, ◌≤◌, List, [], ◌∷◌, length, get_or, All, Contains, refl, ap, ◌∙◌, arith, add-one}
use Rattle.std.specs.List.{insert}
use Rattle.std.specs.List.Sorted.{IsStrictlyIncreasing}
use Rattle.ffc_uni.specs.Univariate.{Coefficients, coefficient_at, SameUnivariate, times, product_of_roots}
use Rattle.ffc_uni.proofs.ValueLemmas.{sum_at-times}
use Rattle.ffc_uni.proofs.Coefficients.{times_alike_second}
use Rattle.ffc_roots.specs.Parts.{AreRising}
use Rattle.ffc_roots.proofs.Identities.{by_values, factor}

pub rising_at : (p m : ℕ) (xs : List ℕ) → AreRising p m xs → (k : ℕ) → k < length xs → (m ≤ get_or xs k 0) × (get_or xs k 0 < p)
rising_at p m [] rising k within = absurd (omega arith)
rising_at p m (x ∷ xs) rising zero within = (rising.0, rising.1)
rising_at p m (x ∷ xs) rising (suc k) within =
    let later = rising_at p (suc x) xs rising.2 k (omega arith) in (omega (arith, later.0, rising.0), later.1)

pub rising_pairs : (p m : ℕ) (xs : List ℕ) → AreRising p m xs → (i j : ℕ) → i ≤ j → j < length xs → get_or xs i 0 ≤ get_or xs j 0
rising_pairs p m [] rising i j order within = absurd (omega arith)
rising_pairs p m (x ∷ xs) rising zero zero order within = omega arith
rising_pairs p m (x ∷ xs) rising zero (suc j) order within = let later = rising_at p (suc x) xs rising.2 j (omega arith) in omega (arith, later.0)
rising_pairs p m (x ∷ xs) rising (suc i) zero order within = absurd (omega arith)
rising_pairs p m (x ∷ xs) rising (suc i) (suc j) order within = rising_pairs p (suc x) xs rising.2 i j (omega arith) (omega arith)

rising_next : (p m : ℕ) (xs : List ℕ) → AreRising p m xs → (k : ℕ) → suc k < length xs → get_or xs k 0 < get_or xs (suc k) 0
rising_next p m [] rising k within = absurd (omega arith)
rising_next p m (x ∷ xs) rising zero within = let later = rising_at p (suc x) xs rising.2 0 (omega arith) in omega (arith, later.0)
rising_next p m (x ∷ xs) rising (suc k) within = rising_next p (suc x) xs rising.2 k (omega arith)

pub increasing_from_rising : (p m : ℕ) (xs : List ℕ) → AreRising p m xs → IsStrictlyIncreasing xs
increasing_from_rising p m xs rising k within = rw add-one (rising_next p m xs rising k (omega arith))

pub below_from_rising : (p m : ℕ) (xs : List ℕ) → AreRising p m xs → All (λ x. x < p) xs
below_from_rising p m [] rising k d within = absurd (omega arith)
below_from_rising p m (x ∷ xs) rising zero d within = rising.1
below_from_rising p m (x ∷ xs) rising (suc k) d within = below_from_rising p (suc x) xs rising.2 k d (omega arith)

pub rising-insert : (p m x i : ℕ) (xs : List ℕ) → AreRising p m xs → m ≤ x → x < p → i ≤ length xs
    → ((k : ℕ) → k < i → get_or xs k 0 < x) → ((k : ℕ) → i ≤ k → k < length xs → x < get_or xs k 0) → AreRising p m (insert xs i x)
rising-insert p m x zero [] rising low high place before after = (low, high, tt)
rising-insert p m x zero (y ∷ ys) rising low high place before after = (low, high, ((let less : x < y = after 0 (omega arith) (omega arith) in omega arith), rising.1, rising.2))
rising-insert p m x (suc i) [] rising low high place before after = absurd (omega arith)
rising-insert p m x (suc i) (y ∷ ys) rising low high place before after =
    (rising.0, rising.1, rising-insert p (suc y) x i ys rising.2 (let less : y < x = before 0 (omega arith) in omega arith) high (omega arith) (λ k h. before (suc k) (omega arith)) (λ k h w. after (suc k) (omega arith) (omega arith)))

exchanged : (p : ℕ) (a b c : Coefficients) → SameUnivariate p (times a (times b c)) (times b (times a c))
exchanged p a b c = by_values p (times a (times b c)) (times b (times a c)) (λ x. simp sum_at-times (omega arith))

-- a root more, at whatever place
pub product-insert : (p x i : ℕ) (xs : List ℕ) → SameUnivariate p (product_of_roots p (insert xs i x)) (product_of_roots p (x ∷ xs))
product-insert p x zero [] k = refl
product-insert p x zero (y ∷ ys) k = refl
product-insert p x (suc i) [] k = refl
product-insert p x (suc i) (y ∷ ys) k =
    times_alike_second p (factor p y) (product_of_roots p (insert ys i x)) (product_of_roots p (x ∷ ys)) (product-insert p x i ys) k
    ∙ exchanged p (factor p y) (factor p x) (product_of_roots p ys) k

-- a product over roots has the factor of each
factor_at : (p r : ℕ) (xs : List ℕ) (k : ℕ) → k < length xs → get_or xs k r ≡ r → (m : Coefficients) × SameUnivariate p (product_of_roots p xs) (times (factor p r) m)
factor_at p r [] k within here = absurd (omega arith)
factor_at p r (y ∷ ys) zero within here = (product_of_roots p ys, λ j. ap (λ z. coefficient_at (times (factor p z) (product_of_roots p ys)) j % p) here)
factor_at p r (y ∷ ys) (suc k) within here =
    let rest = factor_at p r ys k (omega arith) here in (
      times (factor p y) rest.0,
      λ j.
          times_alike_second p (factor p y) (product_of_roots p ys) (times (factor p r) rest.0) rest.1 j
          ∙ exchanged p (factor p y) (factor p r) rest.0 j,
    )

pub has_factor : (p r : ℕ) (xs : List ℕ) → Contains xs r → (m : Coefficients) × SameUnivariate p (product_of_roots p xs) (times (factor p r) m)
has_factor p r xs there = factor_at p r xs there.0 there.1 there.2

-- the default does not matter within the list
within_default : (xs : List ℕ) (k d e : ℕ) → k < length xs → get_or xs k d ≡ get_or xs k e
within_default [] k d e within = absurd (omega arith)
within_default (x ∷ xs) zero d e within = refl
within_default (x ∷ xs) (suc k) d e within = within_default xs k d e (omega arith)

pub contains_at : (xs : List ℕ) (k x y : ℕ) → k < length xs → get_or xs k 0 ≡ x → x ≡ y → Contains xs y
contains_at xs k x y within here same = (k, within, within_default xs k y 0 within ∙ here ∙ same)
