-- A line of bits adds a polynomial that is 0 where the lines so far are.
use Rattle.std.proofs.Common.{◌≡◌, ◌≢◌, ℕ, zero, suc, ◌+◌, ◌-◌, ◌*◌, ◌%◌, ◌^◌, ◌<◌, ◌≤◌, Bool, true, false, not, ◌&&◌, ◌||◌, ◌==◌, nat_lt, if◌then◌else◌, List, [], ◌∷◌, map, sum_by, refl, sym, ap, ap₂, ◌∙◌, subst, inl, inr, ⊎_elim, arith, eqb-true, eq-eqb, add-mul, mul_comm}
use Rattle.std.proofs.Math.Nat.{zero-mod, mod-mod, mod-lt, mod-eq_of_lt, mod_self, mul-one, pow-zero, pow-succ', dvd-add, dvd-sub, dvd_trans, dvd-zero, dvd_refl, dvd-mul_right_of_dvd, mod-eq-zero_of_dvd}
use Rattle.std.proofs.lemmas.Bool.{or_cases, and_parts, and_from, cases_eq, cases_lt, cases_Bool, cond-true, cond-false, false_from_ne_true, false≢true, lt-ltb, ltb-true, le-ltb, or_left, and_left, and_right, eqb-false, not_from_true, not_from_false}
use Rattle.std.proofs.lemmas.Nat.Gcd.{IsGcd-from_zero, IsGcd-from_mod}
use Rattle.std.proofs.lemmas.List.Sums.{sum_by-cons}
use Rattle.std.proofs.lemmas.List.Folds.{list_all-append, list_all-map}
use Rattle.std.specs.Int.{IsGcd, ◌∣◌}
use Rattle.std.specs.List.{list_all, AllByRecursion}
use Rattle.ffc_field.specs.Modular.{IsPrime, mul_mod}
use Rattle.ffc_field.proofs.FieldLaws.{zero_products}
use Rattle.ffc_field.proofs.ModularLaws.{mul_mod-comm, mul_mod-mod_first}
use Rattle.ffc_ring.specs.Monomial.{Monomial, mono_value, same_monomial}
use Rattle.ffc_ring.specs.Polynomial.{Terms, value_sum, poly_value}
use Rattle.ffc_ring.proofs.PolynomialLemmas.{sum_alike, times_alike, cancel_mod, same_monomial-true}
use Rattle.ffc_trees.specs.Laws.{AreZeroAt, IsPoint}
use Rattle.ffc_trees.specs.TreeLines.{line_at}
use Rattle.ffc_trees.specs.BitLines.{is_listed, is_among, is_linear_monomial, is_linear, inserted, variables_of, are_square_and_root, is_bit, are_bits, above, below, size, sum_above, sum_below, terms_among, terms_besides, is_between, divisor_in, common_divisor, divisor_of, distance, is_impossible, choices_of, point_of, is_written_in}
use Rattle.ffc_trees.proofs.LineLemmas.{line_is_zero}

-- ---- the greatest common divisor

divisor-last : (steps a b : ℕ) → b ≡ 0 → divisor_in (suc steps) a b ≡ a
divisor-last steps a b none = cond-true _ _ _ (eq-eqb b 0 none)

divisor-next : (steps a b : ℕ) → b ≢ 0 → divisor_in (suc steps) a b ≡ divisor_in steps b (a % b)
divisor-next steps a b some = cond-false _ _ _ (false_from_ne_true (b == 0) (λ e. some (eqb-true b 0 e)))

divisor_in-is : (steps a b : ℕ) → b ≤ steps → IsGcd a b (divisor_in steps a b)
divisor_in-is zero a b within = IsGcd-from_zero a b (omega arith)
divisor_in-is (suc steps) a b within =
    elim (cases_eq b 0) as (λ _. IsGcd a b (divisor_in (suc steps) a b)) [
      | inl none ↦ rw (divisor-last steps a b none) (IsGcd-from_zero a b none)
      | inr some ↦
          let positive : 0 < b = omega arith in
          rw (divisor-next steps a b some) (IsGcd-from_mod a b _ (divisor_in-is steps b (a % b) (omega (arith, mod-lt a positive))))
    ]

pub common_divisor-is : (a b : ℕ) → IsGcd a b (common_divisor a b)
unfolding common_divisor
common_divisor-is a b = divisor_in-is b a b (omega arith)

-- ---- a bit

-- numbers whose difference is below p are equal where they are equal modulo p
no_difference : (p a d : ℕ) → 0 < p → d < p → (a + d) % p ≡ a % p → d ≡ 0
no_difference p a d positive small e =
    let swap : d + a ≡ a + d = omega arith in
    let both : (d + a % p) % p ≡ (0 + a % p) % p =
    sum_alike p d d (a % p) a refl (mod-mod a p) ∙ ap (λ n. n % p) swap ∙ e ∙ sym (mod-mod a p) ∙ ap (λ n. n % p) (let same : a % p ≡ 0 + a % p = omega arith in same)
    in let rest : a % p < p = mod-lt a positive in
    sym (mod-eq_of_lt small) ∙ cancel_mod p d 0 (a % p) (omega arith) both ∙ zero-mod p

near : (p a b : ℕ) → 0 < p → a < b + p → b < a + p → a % p ≡ b % p → a ≡ b
near p a b positive up down e =
    elim (cases_lt a b) as (λ _. a ≡ b) [
      | inl less ↦
          let whole : a + (b - a) ≡ b = omega arith in
          let none : b - a ≡ 0 = no_difference p a (b - a) positive (omega arith) (ap (λ n. n % p) whole ∙ sym e) in
          omega arith
      | inr more ↦
          let whole : b + (a - b) ≡ a = omega arith in
          let none : a - b ≡ 0 = no_difference p b (a - b) positive (omega arith) (ap (λ n. n % p) whole ∙ e) in
          omega arith
    ]

-- a product with a factor other than 0 is 0 only where the other factor is
other_factor : (p c k : ℕ) → IsPrime p → 0 < c % p → (c * k) % p ≡ 0 → k % p ≡ 0
other_factor p c k prime some none =
    let positive : 0 < p = omega (arith, prime.least) in
    let product : mul_mod p (c % p) (k % p) ≡ 0 =
    mul_mod-mod_first p c (k % p) ∙ mul_mod-comm p c (k % p) ∙ mul_mod-mod_first p k c ∙ mul_mod-comm p k c ∙ none
    in ⊎_elim (λ e. absurd (omega (arith, some, e))) (λ e. e) (zero_products p prime (c % p) (k % p) (mod-lt c positive) (mod-lt k positive) product)

-- c * v * v - c * v is 0 for residues 0 and 1 alone
root_is_bit : (p c d v : ℕ) → IsPrime p → 0 < c % p → (c + d) % p ≡ 0 → (c * (v * v) + d * v) % p ≡ 0 → v < p → v < 2
root_is_bit p c d zero prime some whole none small = omega arith
root_is_bit p c d (suc w) prime some whole none small =
    let v : ℕ = suc w in
    let positive : 0 < p = omega arith in
    let square : v * v ≡ v + w * v = omega arith in
    let parts : c * (v * v) + d * v ≡ (c + d) * v + c * (w * v) =
    ap (λ n. c * n + d * v) square ∙ (let spread : c * (v + w * v) ≡ c * v + c * (w * v) = mul_comm c (v + w * v) ∙ add-mul v (w * v) c ∙ ap₂ ◌+◌ (mul_comm v c) (mul_comm (w * v) c) in
    let both : (c + d) * v ≡ c * v + d * v = add-mul c d v in omega (arith, spread, both))
    in let gone : ((c + d) * v) % p ≡ (0 * v) % p = times_alike p (c + d) 0 v (whole ∙ sym (zero-mod p)) in
    let left : (c * (w * v)) % p ≡ 0 =
    ap (λ n. n % p) (let same : c * (w * v) ≡ 0 + c * (w * v) = omega arith in same)
    ∙ sym (sum_alike p ((c + d) * v) 0 (c * (w * v)) (c * (w * v)) (gone ∙ ap (λ n. n % p) (let same : 0 * v ≡ 0 = omega arith in same)) refl)
    ∙ ap (λ n. n % p) (sym parts) ∙ none
    in let product : mul_mod p w v ≡ 0 = other_factor p c (w * v) prime some left in
    ⊎_elim (λ e. let one : suc w < 2 = omega arith in one) (λ e. absurd (omega arith)) (zero_products p prime w v (omega arith) small product)

-- where a sum is 0 and one part is not, the other part is not
other_some : (p c d : ℕ) → 0 < c % p → (c + d) % p ≡ 0 → 0 < d % p
other_some p c d some whole =
    elim (cases_eq (d % p) 0) as (λ _. 0 < d % p) [
      | inl none ↦
          let alone : (c + 0) % p ≡ (c + d) % p = sum_alike p c c 0 d refl (zero-mod p ∙ sym none) in
          let same : c % p ≡ (c + 0) % p = ap (λ n. n % p) (omega arith) in
          absurd (omega (arith, some, same, alone, whole))
      | inr more ↦ omega arith
    ]

power_two : (v : ℕ) → v ^ 2 * 1 ≡ v * v
power_two v = mul-one (v ^ 2) ∙ pow-succ' v 1 ∙ ap (λ n. v * n) (pow-succ' v 0 ∙ ap (λ n. v * n) (pow-zero v) ∙ mul-one v)

power_one : (v : ℕ) → v ^ 1 * 1 ≡ v
power_one v = mul-one (v ^ 1) ∙ pow-succ' v 0 ∙ ap (λ n. v * n) (pow-zero v) ∙ mul-one v

square_at : (point : ℕ → ℕ) (x : ℕ) (m : Monomial) → same_monomial m ((x, 2) ∷ []) ≡ true → mono_value point m ≡ point x * point x
square_at point x m is = ap (mono_value point) (same_monomial-true m ((x, 2) ∷ []) is) ∙ power_two (point x)

root_at : (point : ℕ → ℕ) (x : ℕ) (m : Monomial) → same_monomial m ((x, 1) ∷ []) ≡ true → mono_value point m ≡ point x
root_at point x m is = ap (mono_value point) (same_monomial-true m ((x, 1) ∷ []) is) ∙ power_one (point x)

-- where a line says that x is a bit and is 0, x is 0 or 1
bit_is_small : (p : ℕ) (point : ℕ → ℕ) (x : ℕ) (ts : Terms) → IsPrime p → is_bit p x ts ≡ true → poly_value p point ts ≡ 0 → point x < p → point x < 2
bit_is_small p point x [] prime is none small = absurd (false≢true is)
bit_is_small p point x (t ∷ []) prime is none small = absurd (false≢true is)
bit_is_small p point x (t ∷ u ∷ v ∷ ts) prime is none small = absurd (false≢true is)
bit_is_small p point x (t ∷ u ∷ []) prime is none small =
    let v : ℕ = point x in
    let first = and_parts (are_square_and_root x t.1 u.1 && nat_lt 0 (t.0 % p)) ((t.0 + u.0) % p == 0) is in
    let parts = and_parts (are_square_and_root x t.1 u.1) (nat_lt 0 (t.0 % p)) first.0 in
    let some : 0 < t.0 % p = ltb-true 0 (t.0 % p) parts.1 in
    let whole : (t.0 + u.0) % p ≡ 0 = eqb-true ((t.0 + u.0) % p) 0 first.1 in
    let straight : (same_monomial t.1 ((x, 2) ∷ []) && same_monomial u.1 ((x, 1) ∷ [])) ≡ true → v < 2 = λ h.
    let both = and_parts (same_monomial t.1 ((x, 2) ∷ [])) (same_monomial u.1 ((x, 1) ∷ [])) h in
    let value : (t.0 * (v * v) + u.0 * v) % p ≡ 0 =
    ap (λ n. n % p) (ap₂ (λ m n. t.0 * m + u.0 * n) (sym (square_at point x t.1 both.0)) (sym (root_at point x u.1 both.1)) ∙ (let same : t.0 * mono_value point t.1 + u.0 * mono_value point u.1 ≡ t.0 * mono_value point t.1 + (u.0 * mono_value point u.1 + 0) = omega arith in same)) ∙ none
    in root_is_bit p t.0 u.0 v prime some whole value small in
    let turned : (same_monomial t.1 ((x, 1) ∷ []) && same_monomial u.1 ((x, 2) ∷ [])) ≡ true → v < 2 = λ h.
    let both = and_parts (same_monomial t.1 ((x, 1) ∷ [])) (same_monomial u.1 ((x, 2) ∷ [])) h in
    let value : (u.0 * (v * v) + t.0 * v) % p ≡ 0 =
    ap (λ n. n % p) (ap₂ (λ m n. u.0 * m + t.0 * n) (sym (square_at point x u.1 both.1)) (sym (root_at point x t.1 both.0)) ∙ (let same : u.0 * mono_value point u.1 + t.0 * mono_value point t.1 ≡ t.0 * mono_value point t.1 + (u.0 * mono_value point u.1 + 0) = omega arith in same)) ∙ none
    in let swap : u.0 + t.0 ≡ t.0 + u.0 = omega arith in
    root_is_bit p u.0 t.0 v prime (other_some p t.0 u.0 some whole) (ap (λ n. n % p) swap ∙ whole) value small
    in ⊎_elim straight turned (or_cases (same_monomial t.1 ((x, 2) ∷ []) && same_monomial u.1 ((x, 1) ∷ [])) (same_monomial t.1 ((x, 1) ∷ []) && same_monomial u.1 ((x, 2) ∷ [])) parts.0)

-- the variables are 0 or 1 at a point where the lines are 0
pub are_small : (p : ℕ) (point : ℕ → ℕ) (lines : List Terms) (xs ks : List ℕ) → IsPrime p → IsPoint p point → AreZeroAt p point lines → are_bits p lines xs ks ≡ true → AllByRecursion (λ x. point x < 2) xs
are_small p point lines [] [] prime below zeros is = tt
are_small p point lines [] (k ∷ ks) prime below zeros is = absurd (false≢true is)
are_small p point lines (x ∷ xs) [] prime below zeros is = absurd (false≢true is)
are_small p point lines (x ∷ xs) (k ∷ ks) prime below zeros is =
    let both = and_parts (is_bit p x (line_at lines k)) (are_bits p lines xs ks) is in
    (bit_is_small p point x (line_at lines k) prime both.0 (line_is_zero p point lines k zeros) (below x), are_small p point lines xs ks prime below zeros both.1)

-- ---- the choice that a point makes

-- those of these variables that are 1
abbrev pub ones_at : (ℕ → ℕ) → List ℕ → List ℕ
ones_at point [] = []
ones_at point (x ∷ xs) = if point x == 1 then x ∷ ones_at point xs else ones_at point xs

ones_with : (point : ℕ → ℕ) (x : ℕ) (xs : List ℕ) → (point x == 1) ≡ true → ones_at point (x ∷ xs) ≡ x ∷ ones_at point xs
ones_with point x xs is = cond-true _ _ _ is

ones_without : (point : ℕ → ℕ) (x : ℕ) (xs : List ℕ) → (point x == 1) ≡ false → ones_at point (x ∷ xs) ≡ ones_at point xs
ones_without point x xs is = cond-false _ _ _ is

-- it is one of all choices
pub choice_passes : (test : List ℕ → Bool) (point : ℕ → ℕ) (xs : List ℕ) → list_all test (choices_of xs) ≡ true → test (ones_at point xs) ≡ true
choice_passes test point [] all = (and_parts (test []) true all).0
choice_passes test point (x ∷ xs) all =
    let both = and_parts (list_all test (choices_of xs)) (list_all test (map (λ ones. x ∷ ones) (choices_of xs))) (sym (list_all-append test (choices_of xs) (map (λ ones. x ∷ ones) (choices_of xs))) ∙ all) in
    elim (cases_Bool (point x == 1)) as (λ _. test (ones_at point (x ∷ xs)) ≡ true) [
      | inl is ↦ rw (ones_with point x xs is) (choice_passes (λ ones. test (x ∷ ones)) point xs (sym (list_all-map test (λ ones. x ∷ ones) (choices_of xs)) ∙ both.1))
      | inr other ↦ rw (ones_without point x xs other) (choice_passes test point xs both.0)
    ]

-- what is true of all that are listed
pub listed_holds : (P : ℕ → Type 0) (xs : List ℕ) (x : ℕ) → AllByRecursion P xs → is_listed xs x ≡ true → P x
listed_holds P [] x all is = absurd (false≢true is)
listed_holds P (y ∷ xs) x all is =
    ⊎_elim (λ h. subst P (sym (eqb-true x y h)) all.0) (λ h. listed_holds P xs x all.1 h) (or_cases (x == y) (is_listed xs x) is)

other_is_not : (x y : ℕ) → x ≢ y → (x == y) ≡ false
other_is_not x y other = false_from_ne_true (x == y) (λ h. other (eqb-true x y h))

-- a variable is listed in the choice where it is gone through and is 1
listed_ones : (point : ℕ → ℕ) (xs : List ℕ) (x : ℕ) → is_listed (ones_at point xs) x ≡ (is_listed xs x && (point x == 1))
listed_ones point [] x = refl
listed_ones point (y ∷ xs) x =
    let later = listed_ones point xs x in
    elim (cases_Bool (point y == 1)) as (λ _. is_listed (ones_at point (y ∷ xs)) x ≡ (is_listed (y ∷ xs) x && (point x == 1))) [
      | inl is ↦ rw (ones_with point y xs is) (elim (cases_eq x y) as (λ _. is_listed (y ∷ ones_at point xs) x ≡ (is_listed (y ∷ xs) x && (point x == 1))) [
        | inl e ↦ or_left (x == y) (is_listed (ones_at point xs) x) (eq-eqb x y e) ∙ sym (and_from (is_listed (y ∷ xs) x) (point x == 1) (or_left (x == y) (is_listed xs x) (eq-eqb x y e)) (ap (λ z. point z == 1) e ∙ is))
        | inr apart ↦ ap (λ b. b || is_listed (ones_at point xs) x) (other_is_not x y apart) ∙ later ∙ ap (λ b. (b || is_listed xs x) && (point x == 1)) (sym (other_is_not x y apart))
      ])
      | inr other ↦ rw (ones_without point y xs other) (elim (cases_eq x y) as (λ _. is_listed (ones_at point xs) x ≡ (is_listed (y ∷ xs) x && (point x == 1))) [
        | inl e ↦ later ∙ and_right (is_listed xs x) (point x == 1) (ap (λ z. point z == 1) e ∙ other) ∙ sym (and_right (is_listed (y ∷ xs) x) (point x == 1) (ap (λ z. point z == 1) e ∙ other))
        | inr apart ↦ later ∙ ap (λ b. (b || is_listed xs x) && (point x == 1)) (sym (other_is_not x y apart))
      ])
    ]

module _ (point : ℕ → ℕ) (chosen : List ℕ) where
  abbrev ones : List ℕ
  ones = ones_at point chosen

  listed_one : (x : ℕ) → is_listed chosen x ≡ true → is_listed ones x ≡ (point x == 1)
  listed_one x is = listed_ones point chosen x ∙ ap (λ b. b && (point x == 1)) is

  unlisted : (x : ℕ) → is_listed chosen x ≡ false → is_listed ones x ≡ false
  unlisted x is = listed_ones point chosen x ∙ ap (λ b. b && (point x == 1)) is

  -- the variables gone through have at the choice the values that they have at the point
  one_point : (x : ℕ) → point x < 2 → is_listed chosen x ≡ true → point x ≡ point_of ones x
  one_point x small is =
      elim (cases_Bool (point x == 1)) as (λ _. point x ≡ point_of ones x) [
        | inl one ↦ eqb-true (point x) 1 one ∙ sym (cond-true _ _ _ (listed_one x is ∙ one))
        | inr other ↦
            let zero : point x ≡ 0 = omega (arith, eqb-false (point x) 1 other) in
            zero ∙ sym (cond-false _ _ _ (listed_one x is ∙ other))
      ]

  module _ (small : (x : ℕ) → is_listed chosen x ≡ true → point x < 2) where
    one_mono_value : (m : Monomial) → is_among chosen m ≡ true → mono_value point m ≡ mono_value (point_of ones) m
    one_mono_value [] is = refl
    one_mono_value (f ∷ m) is =
        let both = and_parts (is_listed chosen f.0) (is_among chosen m) is in
        ap₂ (λ v n. v ^ f.1 * n) (one_point f.0 (small f.0 both.0) both.0) (one_mono_value m both.1)

    -- so a polynomial in them has one value
    pub one_value_sum : (p : ℕ) (ts : Terms) → is_written_in p chosen ts ≡ true → value_sum point ts ≡ value_sum (point_of ones) ts
    one_value_sum p [] is = refl
    one_value_sum p (t ∷ ts) is =
        let both = and_parts (nat_lt t.0 p && is_among chosen t.1) (is_written_in p chosen ts) is in
        let first = and_parts (nat_lt t.0 p) (is_among chosen t.1) both.0 in
        ap₂ (λ n k. t.0 * n + k) (one_mono_value t.1 first.1) (one_value_sum p ts both.1)

-- ---- the integer that a line is

above-small : (p c : ℕ) → 2 * (c % p) < p → above p c ≡ c % p
above-small p c low = cond-true _ _ _ (lt-ltb (2 * (c % p)) p low)

above-large : (p c : ℕ) → p ≤ 2 * (c % p) → above p c ≡ 0
above-large p c high = cond-false _ _ _ (le-ltb (2 * (c % p)) p high)

below-small : (p c : ℕ) → 2 * (c % p) < p → below p c ≡ 0
below-small p c low = cond-true _ _ _ (lt-ltb (2 * (c % p)) p low)

below-large : (p c : ℕ) → p ≤ 2 * (c % p) → below p c ≡ p - c % p
below-large p c high = cond-false _ _ _ (le-ltb (2 * (c % p)) p high)

-- the representative is the coefficient modulo p
representative : (p c : ℕ) → 0 < p → (c + below p c) % p ≡ above p c % p
representative p c positive =
    elim (cases_lt (2 * (c % p)) p) as (λ _. (c + below p c) % p ≡ above p c % p) [
      | inl low ↦ rw (below-small p c low, above-small p c low) (ap (λ n. n % p) (let same : c + 0 ≡ c = omega arith in same) ∙ sym (mod-mod c p))
      | inr high ↦
          let rest : c % p < p = mod-lt c positive in
          let whole : c % p + (p - c % p) ≡ p = omega arith in
          rw (below-large p c high, above-large p c high)
          (sum_alike p c (c % p) (p - c % p) (p - c % p) (sym (mod-mod c p)) refl ∙ ap (λ n. n % p) whole ∙ mod_self p ∙ sym (zero-mod p))
    ]

-- what divides the size divides both parts, since one of them is 0
divides_above : (p g c : ℕ) → g ∣ size p c → g ∣ above p c
divides_above p g c divides =
    elim (cases_lt (2 * (c % p)) p) as (λ _. g ∣ above p c) [
      | inl low ↦ subst (λ n. g ∣ n) (let same : size p c ≡ above p c = omega (arith, below-small p c low) in same) divides
      | inr high ↦ subst (λ n. g ∣ n) (sym (above-large p c high)) (dvd-zero g)
    ]

divides_below : (p g c : ℕ) → g ∣ size p c → g ∣ below p c
divides_below p g c divides =
    elim (cases_lt (2 * (c % p)) p) as (λ _. g ∣ below p c) [
      | inl low ↦ subst (λ n. g ∣ n) (sym (below-small p c low)) (dvd-zero g)
      | inr high ↦ subst (λ n. g ∣ n) (let same : size p c ≡ below p c = omega (arith, above-large p c high) in same) divides
    ]

-- the sum of the terms' parts at a point
abbrev valued : (ℕ → ℕ) → (ℕ → ℕ) → Terms → ℕ
valued part point [] = 0
valued part point (t ∷ ts) = part t.0 * mono_value point t.1 + valued part point ts

abbrev total : (ℕ → ℕ) → Terms → ℕ
total part ts = sum_by (λ t. part t.0) ts

total-cons : (part : ℕ → ℕ) (t : ℕ × Monomial) (ts : Terms) → total part (t ∷ ts) ≡ part t.0 + total part ts
total-cons part t ts = sum_by-cons (λ (u : ℕ × Monomial). part u.0) t ts

-- the value is the difference of the two sums modulo p
value_is : (p : ℕ) (point : ℕ → ℕ) (ts : Terms) → 0 < p → (value_sum point ts + valued (below p) point ts) % p ≡ valued (above p) point ts % p
value_is p point [] positive = refl
value_is p point (t ∷ ts) positive =
    let v : ℕ = mono_value point t.1 in
    let both : (t.0 + below p t.0) * v ≡ t.0 * v + below p t.0 * v = add-mul t.0 (below p t.0) v in
    let order : t.0 * v + value_sum point ts + (below p t.0 * v + valued (below p) point ts) ≡ (t.0 + below p t.0) * v + (value_sum point ts + valued (below p) point ts) = omega (arith, both) in
    ap (λ n. n % p) order
    ∙ sum_alike p ((t.0 + below p t.0) * v) (above p t.0 * v) (value_sum point ts + valued (below p) point ts) (valued (above p) point ts) (times_alike p (t.0 + below p t.0) (above p t.0) v (representative p t.0 positive)) (value_is p point ts positive)

-- each monomial is 0 or 1 at a point
abbrev AreSmall : (ℕ → ℕ) → Terms → Type 0
AreSmall point ts = AllByRecursion (λ t. mono_value point t.1 < 2) ts

times_bit : (a v : ℕ) → v < 2 → a * v ≤ a
times_bit a zero small = omega arith
times_bit a (suc zero) small = omega arith
times_bit a (suc (suc v)) small = absurd (omega arith)

valued-most : (part : ℕ → ℕ) (point : ℕ → ℕ) (ts : Terms) → AreSmall point ts → valued part point ts ≤ total part ts
valued-most part point [] small = omega arith
valued-most part point (t ∷ ts) small = omega (arith, total-cons part t ts, times_bit (part t.0) (mono_value point t.1) small.0, valued-most part point ts small.1)

valued-least : (part : ℕ → ℕ) (point : ℕ → ℕ) (ts : Terms) → total part (terms_among [] ts) ≤ valued part point ts
valued-least part point [] = omega arith
valued-least part point ((c, []) ∷ ts) = omega (arith, total-cons part (c, []) (terms_among [] ts), valued-least part point ts)
valued-least part point ((c, f ∷ m) ∷ ts) = omega (arith, valued-least part point ts)

-- the divisor of terms divides what they are at any point
valued-divided : (p : ℕ) (part : ℕ → ℕ) (point : ℕ → ℕ) (ts : Terms) → ((g c : ℕ) → g ∣ size p c → g ∣ part c) → divisor_of p ts ∣ valued part point ts
valued-divided p part point [] divides = dvd_refl 0
valued-divided p part point (t ∷ ts) divides =
    let is = common_divisor-is (size p t.0) (divisor_of p ts) in
    let g : ℕ = common_divisor (size p t.0) (divisor_of p ts) in
    dvd-add g (dvd-mul_right_of_dvd g (divides g t.0 is.0) (mono_value point t.1)) (dvd_trans g is.1 (valued-divided p part point ts divides))

-- ---- the choice of the point is possible

small_mono_value : (point : ℕ → ℕ) (f : ℕ × ℕ) → (f.1 == 1) ≡ true → mono_value point (f ∷ []) ≡ point f.0
small_mono_value point f is = ap (λ e. point f.0 ^ e * 1) (eqb-true f.1 1 is) ∙ power_one (point f.0)

all_inserted : (P : ℕ → Type 0) (x : ℕ) (xs : List ℕ) → AllByRecursion P (inserted x xs) → P x × AllByRecursion P xs
all_inserted P x [] all = (all.0, tt)
all_inserted P x (y ∷ ys) all =
    elim (cases_lt x y) as (λ _. P x × AllByRecursion P (y ∷ ys)) [
      | inl less ↦
          let here : inserted x (y ∷ ys) ≡ x ∷ y ∷ ys = cond-true _ _ _ (lt-ltb x y less) in
          let parts : AllByRecursion P (x ∷ y ∷ ys) = subst (AllByRecursion P) here all in
          (parts.0, parts.1)
      | inr more ↦
          let there : inserted x (y ∷ ys) ≡ y ∷ inserted x ys = cond-false _ _ _ (le-ltb x y more) in
          let parts : AllByRecursion P (y ∷ inserted x ys) = subst (AllByRecursion P) there all in
          let rest = all_inserted P x ys parts.1 in
          (rest.0, (parts.0, rest.1))
    ]

-- where the variables are 0 or 1, so are the monomials
pub small_monomials : (point : ℕ → ℕ) (ts : Terms) → is_linear ts ≡ true → AllByRecursion (λ x. point x < 2) (variables_of ts) → AreSmall point ts
small_monomials point [] lin small = tt
small_monomials point ((c, []) ∷ ts) lin small = (omega arith, small_monomials point ts (and_parts (is_linear_monomial []) (is_linear ts) lin).1 small)
small_monomials point ((c, f ∷ []) ∷ ts) lin small =
    let both = and_parts (f.1 == 1) (is_linear ts) lin in
    let rest = all_inserted (λ x. point x < 2) f.0 (variables_of ts) small in
    (subst (λ v. v < 2) (sym (small_mono_value point f both.0)) rest.0, small_monomials point ts both.1 rest.1)
small_monomials point ((c, f ∷ g ∷ m) ∷ ts) lin small = absurd (false≢true (and_parts false (is_linear ts) lin).0)

module _ (point : ℕ → ℕ) (chosen : List ℕ) where
  abbrev choice : List ℕ
  choice = ones_at point chosen

  -- a monomial is 1 by the choice, or 0 by it, or left
  data Placed (m : Monomial) : Type 0 where
    taken : is_among choice m ≡ true → is_among chosen m ≡ true → mono_value point m ≡ 1 → Placed m
    dropped : is_among choice m ≡ false → is_among chosen m ≡ true → mono_value point m ≡ 0 → Placed m
    left : is_among choice m ≡ false → is_among chosen m ≡ false → Placed m

  placed : (m : Monomial) → is_linear_monomial m ≡ true → mono_value point m < 2 → Placed m
  placed [] lin small = taken refl refl refl
  placed (f ∷ g ∷ m) lin small = absurd (false≢true lin)
  placed (f ∷ []) lin small =
      let value : mono_value point (f ∷ []) ≡ point f.0 = small_mono_value point f lin in
      elim (cases_Bool (is_listed chosen f.0)) as (λ _. Placed (f ∷ [])) [
        | inl is ↦ elim (cases_Bool (point f.0 == 1)) as (λ _. Placed (f ∷ [])) [
          | inl one ↦ taken (and_from (is_listed choice f.0) true (listed_one point chosen f.0 is ∙ one) refl) (and_from (is_listed chosen f.0) true is refl) (value ∙ eqb-true (point f.0) 1 one)
          | inr other ↦ dropped (and_left (is_listed choice f.0) true (listed_one point chosen f.0 is ∙ other)) (and_from (is_listed chosen f.0) true is refl) (omega (arith, small, value, eqb-false (point f.0) 1 other))
        ]
        | inr off ↦ left (and_left (is_listed choice f.0) true (unlisted point chosen f.0 off)) (and_left (is_listed chosen f.0) true off)
      ]

  abbrev AreParted : (ℕ → ℕ) → Terms → Type 0
  AreParted part ts = valued part point ts ≡ total part (terms_among choice ts) + valued part point (terms_besides chosen ts)

  among-in : (xs : List ℕ) (t : ℕ × Monomial) (ts : Terms) → is_among xs t.1 ≡ true → terms_among xs (t ∷ ts) ≡ t ∷ terms_among xs ts
  among-in xs t ts is = cond-true _ _ _ is

  among-out : (xs : List ℕ) (t : ℕ × Monomial) (ts : Terms) → is_among xs t.1 ≡ false → terms_among xs (t ∷ ts) ≡ terms_among xs ts
  among-out xs t ts is = cond-false _ _ _ is

  besides-in : (xs : List ℕ) (t : ℕ × Monomial) (ts : Terms) → is_among xs t.1 ≡ false → terms_besides xs (t ∷ ts) ≡ t ∷ terms_besides xs ts
  besides-in xs t ts is = cond-true _ _ _ (not_from_false (is_among xs t.1) is)

  besides-out : (xs : List ℕ) (t : ℕ × Monomial) (ts : Terms) → is_among xs t.1 ≡ true → terms_besides xs (t ∷ ts) ≡ terms_besides xs ts
  besides-out xs t ts is = cond-false _ _ _ (not_from_true (is_among xs t.1) is)

  parted-cons : (part : ℕ → ℕ) (t : ℕ × Monomial) (ts : Terms) → Placed t.1 → AreParted part ts → AreParted part (t ∷ ts)
  parted-cons part t ts (taken is inside one) rest =
      rw (among-in choice t ts is, besides-out chosen t ts inside)
      (let first : part t.0 * mono_value point t.1 ≡ part t.0 * 1 = ap (λ v. part t.0 * v) one in omega (arith, first, rest, total-cons part t (terms_among choice ts)))
  parted-cons part t ts (dropped is inside none) rest =
      rw (among-out choice t ts is, besides-out chosen t ts inside)
      (let first : part t.0 * mono_value point t.1 ≡ part t.0 * 0 = ap (λ v. part t.0 * v) none in omega (arith, first, rest))
  parted-cons part t ts (left is outside) rest = rw (among-out choice t ts is, besides-in chosen t ts outside) (omega (arith, rest))

  -- what the line is at the point is what the choice takes, with what the others add
  parted : (part : ℕ → ℕ) (ts : Terms) → is_linear ts ≡ true → AreSmall point ts → AreParted part ts
  parted part [] lin small = refl
  parted part (t ∷ ts) lin small =
      let both = and_parts (is_linear_monomial t.1) (is_linear ts) lin in
      parted-cons part t ts (placed t.1 both.0 small.0) (parted part ts both.1 small.1)

  left_small : (ts : Terms) → AreSmall point ts → AreSmall point (terms_besides chosen ts)
  left_small [] small = tt
  left_small (t ∷ ts) small =
      elim (cases_Bool (is_among chosen t.1)) as (λ _. AreSmall point (terms_besides chosen (t ∷ ts))) [
        | inl is ↦ rw (besides-out chosen t ts is) (left_small ts small.1)
        | inr off ↦ rw (besides-in chosen t ts off) (small.0, left_small ts small.1)
      ]

  module _ (p : ℕ) (ts : Terms) (positive : 0 < p) (lin : is_linear ts ≡ true) (small : AreSmall point ts) where
    -- the line is 0 as an integer
    pub balanced : is_between p ts ≡ true → poly_value p point ts ≡ 0 → valued (above p) point ts ≡ valued (below p) point ts
    balanced is none =
        let up : ℕ = valued (above p) point ts in
        let down : ℕ = valued (below p) point ts in
        let both = and_parts (nat_lt (sum_below p ts) (sum_above p (terms_among [] ts) + p)) (nat_lt (sum_above p ts) (sum_below p (terms_among [] ts) + p)) is in
        let low : sum_below p ts < sum_above p (terms_among [] ts) + p = ltb-true _ _ both.0 in
        let high : sum_above p ts < sum_below p (terms_among [] ts) + p = ltb-true _ _ both.1 in
        let same : up % p ≡ down % p =
        sym (value_is p point ts positive) ∙ sum_alike p (value_sum point ts) 0 down down (none ∙ sym (zero-mod p)) refl
        ∙ ap (λ n. n % p) (let none_more : 0 + down ≡ down = omega arith in none_more)
        in near p up down positive
        (omega (arith, high, valued-most (above p) point ts small, valued-least (below p) point ts))
        (omega (arith, low, valued-most (below p) point ts small, valued-least (above p) point ts)) same

    pub possible : valued (above p) point ts ≡ valued (below p) point ts → is_impossible p (terms_among choice ts) (terms_besides chosen ts) ≡ true → ⊥
    possible balance is =
        let rest : Terms = terms_besides chosen ts in
        let up : ℕ = sum_above p (terms_among choice ts) in
        let down : ℕ = sum_below p (terms_among choice ts) in
        let more : ℕ = valued (above p) point rest in
        let less : ℕ = valued (below p) point rest in
        let g : ℕ = divisor_of p rest in
        let sums : up + more ≡ down + less = sym (parted (above p) ts lin small) ∙ balance ∙ parted (below p) ts lin small in
        let most : more ≤ sum_above p rest = valued-most (above p) point rest (left_small ts small) in
        let least : less ≤ sum_below p rest = valued-most (below p) point rest (left_small ts small) in
        let apart : distance less more ≡ distance up down = omega arith in
        let divided : g ∣ distance less more =
        dvd-add g (dvd-sub g (valued-divided p (below p) point rest (divides_below p)) (valued-divided p (above p) point rest (divides_above p)))
        (dvd-sub g (valued-divided p (above p) point rest (divides_above p)) (valued-divided p (below p) point rest (divides_below p)))
        in let whole : (distance up down % g == 0) ≡ true = eq-eqb (distance up down % g) 0 (mod-eq-zero_of_dvd g (subst (λ n. g ∣ n) apart divided)) in
        let over : Bool = nat_lt (down + sum_below p rest) up in
        let under : Bool = nat_lt (up + sum_above p rest) down in
        let parts : Bool = distance up down % g == 0 in
        ⊎_elim
        (λ h. ⊎_elim
        (λ most_left. let less_up : down + sum_below p rest < up = ltb-true _ _ most_left in omega (arith, less_up, sums, least))
        (λ least_left. let less_down : up + sum_above p rest < down = ltb-true _ _ least_left in omega (arith, less_down, sums, most)) (or_cases over under h))
        (λ h. false≢true (sym (not_from_true parts whole) ∙ h))
        (or_cases (over || under) (not parts) is)
