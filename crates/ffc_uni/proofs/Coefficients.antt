-- The coefficients of sums, multiples and products, and that these belong to the polynomials and not to the lists.
use Rattle.std.proofs.Common.{◌≡◌, ℕ, zero, suc, ◌+◌, ◌*◌, ◌%◌, ◌≤◌, [], ◌∷◌, ◌++◌, length, take, drop, refl, sym, ap, ◌∙◌, arith, mul_comm}
use Rattle.ffc_ring.proofs.PolynomialLemmas.{sum_alike, times_alike}
use Rattle.ffc_uni.specs.Rows.{shifted}
use Rattle.ffc_uni.specs.Univariate.{Coefficients, coefficient_at, SameUnivariate, plus, multiple, times}

pub coefficient_at-plus : (a b : Coefficients) (k : ℕ) → coefficient_at (plus a b) k ≡ coefficient_at a k + coefficient_at b k
coefficient_at-plus [] b k = omega arith
coefficient_at-plus (x ∷ a) [] k = omega arith
coefficient_at-plus (x ∷ a) (y ∷ b) zero = refl
coefficient_at-plus (x ∷ a) (y ∷ b) (suc k) = coefficient_at-plus a b k

pub coefficient_at-multiple : (c : ℕ) (a : Coefficients) (k : ℕ) → coefficient_at (multiple c a) k ≡ c * coefficient_at a k
coefficient_at-multiple c [] k = omega arith
coefficient_at-multiple c (x ∷ a) zero = refl
coefficient_at-multiple c (x ∷ a) (suc k) = coefficient_at-multiple c a k

-- ---- each operation belongs to the polynomials

pub plus_alike : (p : ℕ) (a b c d : Coefficients) → SameUnivariate p a b → SameUnivariate p c d → SameUnivariate p (plus a c) (plus b d)
plus_alike p a b c d e f k =
    ap (λ n. n % p) (coefficient_at-plus a c k)
    ∙ sum_alike p (coefficient_at a k) (coefficient_at b k) (coefficient_at c k) (coefficient_at d k) (e k) (f k)
    ∙ ap (λ n. n % p) (sym (coefficient_at-plus b d k))

pub cons_alike : (p c : ℕ) (a b : Coefficients) → SameUnivariate p a b → SameUnivariate p (c ∷ a) (c ∷ b)
cons_alike p c a b e zero = refl
cons_alike p c a b e (suc k) = e k

pub multiple_alike : (p c : ℕ) (a b : Coefficients) → SameUnivariate p a b → SameUnivariate p (multiple c a) (multiple c b)
multiple_alike p c a b e k =
    ap (λ n. n % p) (coefficient_at-multiple c a k ∙ mul_comm c (coefficient_at a k))
    ∙ times_alike p (coefficient_at a k) (coefficient_at b k) c (e k)
    ∙ ap (λ n. n % p) (mul_comm (coefficient_at b k) c ∙ sym (coefficient_at-multiple c b k))

pub factor_alike : (p c d : ℕ) (a : Coefficients) → c % p ≡ d % p → SameUnivariate p (multiple c a) (multiple d a)
factor_alike p c d a e k =
    ap (λ n. n % p) (coefficient_at-multiple c a k) ∙ times_alike p c d (coefficient_at a k) e
    ∙ ap (λ n. n % p) (sym (coefficient_at-multiple d a k))

pub times_alike_second : (p : ℕ) (a b c : Coefficients) → SameUnivariate p b c → SameUnivariate p (times a b) (times a c)
times_alike_second p [] b c e = λ k. refl
times_alike_second p (x ∷ a) b c e =
    plus_alike p (multiple x b) (multiple x c) (0 ∷ times a b) (0 ∷ times a c) (multiple_alike p x b c e)
    (cons_alike p 0 (times a b) (times a c) (times_alike_second p a b c e))

coefficient_at-multiple_zero : (b : Coefficients) (k : ℕ) → coefficient_at (multiple 0 b) k ≡ 0
coefficient_at-multiple_zero b k = coefficient_at-multiple 0 b k ∙ omega arith

times_zero : (p : ℕ) (a b : Coefficients) → SameUnivariate p [] a → SameUnivariate p [] (times a b)
times_zero p [] b e k = refl
times_zero p (x ∷ a) b e k =
    let first : SameUnivariate p [] (multiple x b) = λ k. ap (λ n. n % p) (sym (coefficient_at-multiple_zero b k)) ∙ factor_alike p 0 x b (e 0) k in
    let none : SameUnivariate p [] (0 ∷ []) = elim [ zero ↦ refl | suc k ↦ refl ] in
    let rest : SameUnivariate p [] (0 ∷ times a b) = λ k. none k ∙ cons_alike p 0 [] (times a b) (times_zero p a b (λ j. e (suc j))) k in
    plus_alike p [] (multiple x b) [] (0 ∷ times a b) first rest k

pub times_alike_first : (p : ℕ) (a b c : Coefficients) → SameUnivariate p a b → SameUnivariate p (times a c) (times b c)
times_alike_first p [] b c e = times_zero p b c e
times_alike_first p (x ∷ a) [] c e = λ k. sym (times_zero p (x ∷ a) c (λ j. sym (e j)) k)
times_alike_first p (x ∷ a) (y ∷ b) c e =
    plus_alike p (multiple x c) (multiple y c) (0 ∷ times a c) (0 ∷ times b c) (factor_alike p x y c (e 0))
    (cons_alike p 0 (times a c) (times b c) (times_alike_first p a b c (λ k. e (suc k))))

pub products_alike : (p : ℕ) (a b c d : Coefficients) → SameUnivariate p a b → SameUnivariate p c d → SameUnivariate p (times a c) (times b d)
products_alike p a b c d e f k = times_alike_first p a b c e k ∙ times_alike_second p b c d f k

-- ---- zeros at the end

pub coefficient_at-zero_behind : (a : Coefficients) (k : ℕ) → coefficient_at (a ++ 0 ∷ []) k ≡ coefficient_at a k
coefficient_at-zero_behind [] zero = refl
coefficient_at-zero_behind [] (suc k) = refl
coefficient_at-zero_behind (x ∷ a) zero = refl
coefficient_at-zero_behind (x ∷ a) (suc k) = coefficient_at-zero_behind a k

-- ---- products with powers of X

shifted-cons : (n : ℕ) (a : Coefficients) → shifted n (0 ∷ a) ≡ 0 ∷ shifted n a
shifted-cons zero a = refl
shifted-cons (suc n) a = ap (λ l. 0 ∷ l) (shifted-cons n a)

coefficient_at-shifted_plus : (n : ℕ) (a b : Coefficients) (k : ℕ) → coefficient_at (shifted n (plus a b)) k ≡ coefficient_at (shifted n a) k + coefficient_at (shifted n b) k
coefficient_at-shifted_plus zero a b k = coefficient_at-plus a b k
coefficient_at-shifted_plus (suc n) a b zero = refl
coefficient_at-shifted_plus (suc n) a b (suc k) = coefficient_at-shifted_plus n a b k

pub coefficient_at-shifted_zero : (n k : ℕ) → coefficient_at (shifted n []) k ≡ 0
coefficient_at-shifted_zero zero k = refl
coefficient_at-shifted_zero (suc n) zero = refl
coefficient_at-shifted_zero (suc n) (suc k) = coefficient_at-shifted_zero n k

-- a sum after the first n coefficients
pub spliced : (p n : ℕ) (a b c : Coefficients) → n ≤ length a → SameUnivariate p b (plus (drop n a) c) → SameUnivariate p (take n a ++ b) (plus a (shifted n c))
spliced p zero a b c h e = e
spliced p (suc n) [] b c h e = absurd (omega arith)
spliced p (suc n) (x ∷ a) b c h e = elim [
  | zero ↦ ap (λ m. m % p) (let same : x ≡ x + 0 = omega arith in same)
  | suc k ↦ spliced p n a b c (omega arith) e k
]

-- one row more of a product, with a zero put after the sum so far
pub product_step : (p n x : ℕ) (a b c rest all : Coefficients) → SameUnivariate p c (plus (a ++ 0 ∷ []) (shifted n (multiple x b))) → SameUnivariate p (plus a (shifted n (times (x ∷ rest) b))) all → SameUnivariate p (plus c (shifted (suc n) (times rest b))) all
product_step p n x a b c rest all e same k =
    let row = shifted n (multiple x b) in
    let later = shifted n (0 ∷ times rest b) in
    let beyond : coefficient_at (shifted (suc n) (times rest b)) k ≡ coefficient_at later k =
    ap (λ l. coefficient_at l k) (sym (shifted-cons n (times rest b))) in
    let joined : coefficient_at (plus (a ++ 0 ∷ []) row) k + coefficient_at later k ≡ coefficient_at (plus a (shifted n (times (x ∷ rest) b))) k =
    omega (arith, coefficient_at-plus (a ++ 0 ∷ []) row k, coefficient_at-zero_behind a k, coefficient_at-plus a (shifted n (times (x ∷ rest) b)) k, coefficient_at-shifted_plus n (multiple x b) (0 ∷ times rest b) k) in
    ap (λ m. m % p) (coefficient_at-plus c (shifted (suc n) (times rest b)) k ∙ ap (λ m. coefficient_at c k + m) beyond)
    ∙ sum_alike p (coefficient_at c k) (coefficient_at (plus (a ++ 0 ∷ []) row) k) (coefficient_at later k) (coefficient_at later k) (e k) refl
    ∙ ap (λ m. m % p) joined ∙ same k

-- no row is left
pub product_end : (p n : ℕ) (a b : Coefficients) → SameUnivariate p (plus a (shifted n (times [] b))) a
product_end p n a b k =
    ap (λ m. m % p) (coefficient_at-plus a (shifted n []) k ∙ omega (arith, coefficient_at-shifted_zero n k))

-- zeros are no summand
pub zeros_added : (p : ℕ) (a b : Coefficients) → SameUnivariate p a [] → SameUnivariate p (plus a b) b
zeros_added p a b e k = plus_alike p a [] b b e (λ j. refl) k

-- once a polynomial is the polynomial
pub multiple_by_one : (p c : ℕ) (a : Coefficients) → c % p ≡ 1 % p → SameUnivariate p (multiple c a) a
multiple_by_one p c a e k =
    factor_alike p c 1 a e k
    ∙ ap (λ n. n % p) (coefficient_at-multiple 1 a k ∙ (let same : 1 * coefficient_at a k ≡ coefficient_at a k = omega arith in same))
