-- Rows of coefficients as polynomials of many variables in which one occurs.
use Rattle.std.proofs.Common.{◌≡◌, ℕ, zero, suc, ◌+◌, ◌%◌, ◌<◌, ◌≤◌, List, [], ◌∷◌, ◌++◌, length, get_or, take, map, refl, sym, ap, ap₂, ◌∙◌, arith, length-append, zero-add, inl, inr}
use Rattle.std.proofs.Math.ListN.{replicate}
use Rattle.std.proofs.lemmas.List.{length-replicate, length-take, map-append, take_all}
use Rattle.ffc_ring.specs.Monomial.{Monomial}
use Rattle.std.specs.Prelude.{slice_set}
use Rattle.ffc_ring.specs.Polynomial.{Terms, written, coefficient, SamePolynomial}
use Rattle.ffc_ring.proofs.PolynomialLemmas.{same_sums, cases_monomial, written-at, written-off}
use Rattle.ffc_uni.specs.Rows.{shifted}
use Rattle.ffc_uni.specs.Univariate.{Coefficients, coefficient_at, SameUnivariate, plus, power_of, terms_from, terms_in}
use Rattle.ffc_uni.proofs.Rows.{padded, taken_at, length-residues}
use Rattle.ffc_uni.proofs.RingLemmas.{same_in_ring, sum_in_ring}
use Rattle.ffc_poly.specs.Ordered.{residues}
use Rattle.ffc_roots.specs.Sparse.{IsPowerOf, IsInOne}

plus-none : (a : Coefficients) (k : ℕ) → coefficient_at a k ≡ coefficient_at (plus a []) k
plus-none [] k = refl
plus-none (x ∷ a) k = refl

-- a coefficient that was added to is a sum of polynomials
pub added_at : {F : Type 0} (value : F → ℕ) (p c : ℕ) (xs : List F) (i : ℕ) (x y : F) → i < length xs → y ≡ get_or xs i y → value x % p ≡ (value y + c) % p
    → SameUnivariate p (map value (slice_set xs i x)) (plus (map value xs) (shifted i (c ∷ [])))
added_at value p c [] i x y low there sum = absurd (omega arith)
added_at value p c (z ∷ xs) zero x y low there sum = elim [
  | zero ↦ sum ∙ ap (λ v. (value v + c) % p) there
  | suc k ↦ ap (λ n. n % p) (plus-none (map value xs) k)
]
added_at value p c (z ∷ xs) (suc i) x y low there sum = elim [
  | zero ↦ ap (λ n. n % p) (let same : value z ≡ value z + 0 = omega arith in same)
  | suc k ↦ added_at value p c xs i x y (omega arith) there sum k
]

-- a row that is filled up with zeros is as long as asked for, and the same polynomial
pub filled_length : {F : Type 0} (n room : ℕ) (xs : List F) (x : F) → length xs ≤ n → length xs + room ≡ n → length (take n xs ++ replicate room x) ≡ n
filled_length n room xs x short whole =
    length-append (take n xs) (replicate room x) ∙ omega (arith, ap length (take_all n xs short), length-replicate room x)

pub filled_same : {F : Type 0} (value : F → ℕ) (p n room : ℕ) (xs : List F) (x : F) → length xs ≤ n → value x ≡ 0 → SameUnivariate p (map value (take n xs ++ replicate room x)) (map value xs)
filled_same value p n room xs x short zero_is k =
    ap (λ l. coefficient_at (map value (l ++ replicate room x)) k % p) (take_all n xs short) ∙ padded value p xs room x zero_is k

-- ---- as a polynomial of many variables

-- the coefficient at a place, alone
single : (p v i k c : ℕ) → SamePolynomial p (terms_from v k (shifted i (c ∷ []))) ((c, power_of v (k + i)) ∷ [])
single p v zero k c n = ap (λ j. written ((c, power_of v j) ∷ []) n % p) (let same : k ≡ k + 0 = omega arith in same)
single p v (suc i) k c n =
    written-zero p v k (terms_from v (suc k) (shifted i (c ∷ []))) n
    ∙ single p v i (suc k) c n
    ∙ ap (λ j. written ((c, power_of v j) ∷ []) n % p) (let same : suc k + i ≡ k + suc i = omega arith in same)
  where
    written-zero : (p v k : ℕ) (ts : Terms) (n : Monomial) → coefficient p ((0, power_of v k) ∷ ts) n ≡ coefficient p ts n
    written-zero p v k ts n = elim (cases_monomial (power_of v k) n) [
      | inl here ↦ ap (λ c. c % p) (written-at n (0, power_of v k) ts here ∙ zero-add (written ts n))
      | inr there ↦ ap (λ c. c % p) (written-off n (0, power_of v k) ts there)
    ]

-- a term more
pub term_added : (p v : ℕ) (row more : Coefficients) (i c : ℕ) (ts : Terms) → SamePolynomial p (terms_in v row) ts → SameUnivariate p more (plus row (shifted i (c ∷ []))) → SamePolynomial p (terms_in v more) (ts ++ (c, power_of v i) ∷ [])
term_added p v row more i c ts so_far sum n =
    same_in_ring p v more (plus row (shifted i (c ∷ []))) sum n
    ∙ sum_in_ring p v row (shifted i (c ∷ [])) n
    ∙ same_sums p (terms_in v row) ts (terms_in v (shifted i (c ∷ []))) ((c, power_of v i) ∷ []) so_far (λ m. single p v i 0 c m ∙ ap (λ j. written ((c, power_of v j) ∷ []) m % p) (let same : 0 + i ≡ i = omega arith in same)) n

-- a term in which another variable occurs
pub not_in_one : (v : ℕ) (ts : Terms) (i : ℕ) → i < length ts → (IsPowerOf v (get_or ts i (0, [])).1 → ⊥) → IsInOne v ts → ⊥
not_in_one v [] i low other all = absurd (omega arith)
not_in_one v (t ∷ ts) zero low other all = other all.0
not_in_one v (t ∷ ts) (suc i) low other all = not_in_one v ts i (omega arith) other all.1

-- ---- from one variable

residues-push : {F : Type 0} (value : F → ℕ) (ts : List (F × Monomial)) (t : F × Monomial) → residues value (ts ++ t ∷ []) ≡ residues value ts ++ (value t.0, t.1) ∷ []
residues-push value [] t = refl
residues-push value (s ∷ ts) t = ap (λ l. (value s.0, s.1) ∷ l) (residues-push value ts t)

terms_from-push : (v k : ℕ) (a : Coefficients) (c : ℕ) → terms_from v k (a ++ c ∷ []) ≡ terms_from v k a ++ (c, power_of v (k + length a)) ∷ []
terms_from-push v k [] c = ap (λ j. (c, power_of v j) ∷ []) (let same : k ≡ k + 0 = omega arith in same)
terms_from-push v k (x ∷ a) c =
    ap (λ l. (x, power_of v k) ∷ l)
    (terms_from-push v (suc k) a c ∙ ap (λ j. terms_from v (suc k) a ++ (c, power_of v j) ∷ []) (let same : suc k + length a ≡ k + suc (length a) = omega arith in same))

-- one more term
pub term_pushed : {F : Type 0} (value : F → ℕ) (v : ℕ) (ts : List (F × Monomial)) (coefs : List F) (i : ℕ) (c : F) (m : Monomial) → i < length coefs → c ≡ get_or coefs i c → m ≡ power_of v i
    → residues value ts ≡ terms_in v (map value (take i coefs)) → residues value (ts ++ (c, m) ∷ []) ≡ terms_in v (map value (take (i + 1) coefs))
term_pushed value v ts coefs i c m low there power so_far =
    let front = map value (take i coefs) in
    let long : i ≡ 0 + length front = omega (arith, length-residues value (take i coefs), length-take i coefs) in
    residues-push value ts (c, m)
    ∙ ap₂ (λ (l : Terms) (n : Monomial). l ++ (value c, n) ∷ []) so_far (power ∙ ap (power_of v) long)
    ∙ sym (terms_from-push v 0 front (value c))
    ∙ ap (terms_in v) (sym (map-append value (take i coefs) (c ∷ [])) ∙ ap (map value) (sym (taken_at coefs i c low there)))

-- as many terms as coefficients
length-terms_from : (v k : ℕ) (a : Coefficients) → length (terms_from v k a) ≡ length a
length-terms_from v k [] = refl
length-terms_from v k (c ∷ a) = ap suc (length-terms_from v (suc k) a)

length-of_residues : {F : Type 0} (value : F → ℕ) (ts : List (F × Monomial)) → length (residues value ts) ≡ length ts
length-of_residues value [] = refl
length-of_residues value (t ∷ ts) = ap suc (length-of_residues value ts)

pub as_many : {F : Type 0} (value : F → ℕ) (v : ℕ) (ts : List (F × Monomial)) (a : Coefficients) → residues value ts ≡ terms_in v a → length ts ≡ length a
as_many value v ts a same = sym (length-of_residues value ts) ∙ ap length same ∙ length-terms_from v 0 a
