-- Rows of coefficients: tests of all of them, and products.
use Rattle.std.proofs.Common.{◌≡◌, ◌≢◌, ℕ, zero, suc, ◌+◌, ◌-◌, ◌%◌, ◌<◌, ◌==◌, Bool, true, false, ◌&&◌, List, [], ◌∷◌, ◌++◌, length, get_or, map, drop, refl, sym, ap, ap₂, ◌∙◌, arith, mod-eq_of_lt, eq-eqb, ne_eqb}
use Rattle.std.proofs.Math.Nat.{zero-mod, mod-mod}
use Rattle.std.proofs.lemmas.Bool.{and_parts, and_from, eqb-true}
use Rattle.ffc_uni.specs.Univariate.{Coefficients, coefficient_at, SameUnivariate, plus, multiple, times}
use Rattle.ffc_uni.specs.Rows.{shifted}
use Rattle.ffc_uni.proofs.Coefficients.{product_step as earlier, coefficient_at-plus, coefficient_at-zero_behind}
use Rattle.ffc_trees.specs.TreeLines.{is_zero, is_same}
use Rattle.ffc_cktree.proofs.SumLemmas.{left_at}

-- ---- the test of zeros

module _ {F : Type 0} (value : F → ℕ) (p : ℕ) (row : List F) (i : ℕ) (x : F) (inside : i < length row) (at : x ≡ get_or row i x) where
  zeros_left : is_zero p (map value (drop i row)) ≡ ((value x % p == 0) && is_zero p (map value (drop (i + 1) row)))
  zeros_left = ap (λ xs. is_zero p (map value xs)) (left_at row i x inside at)

  pub nonzero_here : value x < p → value x ≢ 0 → is_zero p (map value (drop i row)) ≡ is_zero p (map value row) → false ≡ is_zero p (map value row)
  nonzero_here below other h =
      let here : (value x % p == 0) ≡ false = ne_eqb (value x % p) 0 (λ e. other (sym (mod-eq_of_lt below) ∙ e)) in
      sym (ap (λ b. b && is_zero p (map value (drop (i + 1) row))) here) ∙ sym zeros_left ∙ h

  pub zero_here : 0 < p → value x ≡ 0 → is_zero p (map value (drop i row)) ≡ is_zero p (map value row) → is_zero p (map value (drop (i + 1) row)) ≡ is_zero p (map value row)
  zero_here some none h =
      let here : (value x % p == 0) ≡ true = eq-eqb (value x % p) 0 (ap (λ k. k % p) none ∙ zero-mod p) in
      sym (ap (λ b. b && is_zero p (map value (drop (i + 1) row))) here) ∙ sym zeros_left ∙ h

-- ---- the test of two rows

is_zero-same : (p : ℕ) (a : Coefficients) → is_zero p a ≡ true → SameUnivariate p a []
is_zero-same p [] is k = refl
is_zero-same p (c ∷ a) is zero = eqb-true (c % p) 0 (and_parts (c % p == 0) (is_zero p a) is).0 ∙ sym (zero-mod p)
is_zero-same p (c ∷ a) is (suc k) = is_zero-same p a (and_parts (c % p == 0) (is_zero p a) is).1 k

pub is_same-same : (p : ℕ) (a b : Coefficients) → is_same p a b ≡ true → SameUnivariate p a b
is_same-same p [] b is k = sym (is_zero-same p b is k)
is_same-same p (x ∷ a) [] is k = is_zero-same p (x ∷ a) is k
is_same-same p (x ∷ a) (y ∷ b) is zero = eqb-true (x % p) (y % p) (and_parts (x % p == y % p) (is_same p a b) is).0
is_same-same p (x ∷ a) (y ∷ b) is (suc k) = is_same-same p a b (and_parts (x % p == y % p) (is_same p a b) is).1 k

same-is_zero : (p : ℕ) (a : Coefficients) → SameUnivariate p a [] → is_zero p a ≡ true
same-is_zero p [] same = refl
same-is_zero p (c ∷ a) same = and_from (c % p == 0) (is_zero p a) (eq-eqb (c % p) 0 (same 0 ∙ zero-mod p)) (same-is_zero p a (λ k. same (suc k)))

pub same-is_same : (p : ℕ) (a b : Coefficients) → SameUnivariate p a b → is_same p a b ≡ true
same-is_same p [] b same = same-is_zero p b (λ k. sym (same k))
same-is_same p (x ∷ a) [] same = same-is_zero p (x ∷ a) same
same-is_same p (x ∷ a) (y ∷ b) same = and_from (x % p == y % p) (is_same p a b) (eq-eqb (x % p) (y % p) (same 0)) (same-is_same p a b (λ k. same (suc k)))

both_ways : (a b : Bool) → (a ≡ true → b ≡ true) → (b ≡ true → a ≡ true) → a ≡ b
both_ways true b f g = sym (f refl)
both_ways false true f g = g refl
both_ways false false f g = refl

-- the test depends on the polynomials alone
pub is_same-alike : (p : ℕ) (a b c d : Coefficients) → SameUnivariate p a c → SameUnivariate p b d → is_same p a b ≡ is_same p c d
is_same-alike p a b c d x y =
    both_ways (is_same p a b) (is_same p c d)
    (λ is. same-is_same p c d (λ k. sym (x k) ∙ is_same-same p a b is k ∙ y k))
    (λ is. same-is_same p a b (λ k. x k ∙ is_same-same p c d is k ∙ sym (y k)))

module _ (p : ℕ) (left right left_rest right_rest : Coefficients) (x y : ℕ) (left_is : left ≡ x ∷ left_rest) (right_is : right ≡ y ∷ right_rest) (x_below : x < p) (y_below : y < p) where
  both_left : is_same p left right ≡ ((x % p == y % p) && is_same p left_rest right_rest)
  both_left = ap₂ (is_same p) left_is right_is

  pub differ_here : (all : Bool) → x ≢ y → is_same p left right ≡ all → false ≡ all
  differ_here all other h =
      let here : (x % p == y % p) ≡ false = ne_eqb (x % p) (y % p) (λ e. other (sym (mod-eq_of_lt x_below) ∙ e ∙ mod-eq_of_lt y_below)) in
      sym (ap (λ b. b && is_same p left_rest right_rest) here) ∙ sym both_left ∙ h

  pub agree_here : (all : Bool) → x ≡ y → is_same p left right ≡ all → is_same p left_rest right_rest ≡ all
  agree_here all same h =
      let here : (x % p == y % p) ≡ true = eq-eqb (x % p) (y % p) (ap (λ k. k % p) same) in
      sym (ap (λ b. b && is_same p left_rest right_rest) here) ∙ sym both_left ∙ h

and_true : (b : Bool) → (b && true) ≡ b
and_true true = refl
and_true false = refl

-- ---- products

-- one multiple more of a product
pub product_step : (p n x : ℕ) (a b c rest all : Coefficients) → SameUnivariate p c (plus a (shifted n (multiple x b))) → SameUnivariate p (plus a (shifted n (times (x ∷ rest) b))) all → SameUnivariate p (plus c (shifted (suc n) (times rest b))) all
product_step p n x a b c rest all added so_far =
    earlier p n x a b c rest all
    (λ k. added k ∙ ap (λ j. j % p) (coefficient_at-plus a (shifted n (multiple x b)) k ∙ ap (λ j. j + coefficient_at (shifted n (multiple x b)) k) (sym (coefficient_at-zero_behind a k)) ∙ sym (coefficient_at-plus (a ++ 0 ∷ []) (shifted n (multiple x b)) k))) so_far

pub plus_turned : (p : ℕ) (a b : Coefficients) → SameUnivariate p (plus a b) (plus b a)
plus_turned p a b k =
    ap (λ j. j % p) (coefficient_at-plus a b k ∙ (let turned : coefficient_at a k + coefficient_at b k ≡ coefficient_at b k + coefficient_at a k = omega arith in turned) ∙ sym (coefficient_at-plus b a k))

-- the factor of a root, with residues
pub root_factor : (p r n one : ℕ) → n ≡ (p - r) % p → one ≡ 1 % p → SameUnivariate p (n ∷ one ∷ []) ((p - r) ∷ 1 ∷ [])
root_factor p r n one e f zero = ap (λ k. k % p) e ∙ mod-mod (p - r) p
root_factor p r n one e f (suc zero) = ap (λ k. k % p) f ∙ mod-mod 1 p
root_factor p r n one e f (suc (suc k)) = refl
