-- A line as an integer: representatives, their sums, and what divides them.
use Rattle.std.proofs.Common.{◌≡◌, ◌≢◌, ℕ, zero, suc, ◌+◌, ◌-◌, ◌*◌, ◌%◌, ◌<◌, ◌≤◌, ◌==◌, nat_lt, Bool, true, false, not, ◌||◌, if◌then◌else◌, List, [], ◌∷◌, sum_by, inl, inr, refl, sym, ap, ap₂, ◌∙◌, arith, zero-add, mod-eq_of_lt}
use Rattle.std.specs.List.{filter}
use Rattle.std.proofs.Math.Nat.{mod-lt}
use Rattle.std.proofs.lemmas.Bool.{cond-true, cond-false, cases_Bool, le-ltb, lt-ltb, eq-eqb, ne_eqb, eqb-false}
use Rattle.std.proofs.lemmas.List.Sums.{sum_by-cons}
use Rattle.ffc_ring.specs.Monomial.{Monomial}
use Rattle.ffc_ring.specs.Polynomial.{Terms}
use Rattle.ffc_trees.specs.BitLines.{is_among, above, below, size, sum_above, sum_below, terms_among, terms_besides, divisor_in, common_divisor, divisor_of, distance, is_impossible}
use Rattle.ffc_cktree.specs.declared.extent.Extent.{Extent}
use Rattle.ffc_cktree.specs.declared.extent.Left.{Left}
use Rattle.ffc_cktree.specs.Extents.{IsExtent, is_apart}

-- ---- representatives

module _ (p c : ℕ) (within : c < p) where
  residue_stays : c % p ≡ c
  residue_stays = mod-eq_of_lt within

  doubled_low : c < p - c → nat_lt (2 * (c % p)) p ≡ true
  doubled_low h = lt-ltb (2 * (c % p)) p (omega (arith, residue_stays))

  doubled_high : p - c ≤ c → nat_lt (2 * (c % p)) p ≡ false
  doubled_high h = le-ltb (2 * (c % p)) p (omega (arith, residue_stays))

  pub above_low : c < p - c → c ≡ above p c
  above_low h = sym (cond-true _ _ _ (doubled_low h) ∙ residue_stays)

  pub above_high : p - c ≤ c → 0 ≡ above p c
  above_high h = sym (cond-false _ _ _ (doubled_high h))

  pub below_low : c < p - c → 0 ≡ below p c
  below_low h = sym (cond-true _ _ _ (doubled_low h))

  pub below_high : p - c ≤ c → p - c ≡ below p c
  below_high h = sym (cond-false _ _ _ (doubled_high h) ∙ ap (λ k. p - k) residue_stays)

  pub size_low : c < p - c → c ≡ size p c
  size_low h = omega (arith, above_low h, below_low h)

  pub size_high : p - c ≤ c → p - c ≡ size p c
  size_high h = omega (arith, above_high h, below_high h)

-- ---- sums over some of the terms

taken : {X : Type 0} (f : X → ℕ) (b : Bool) (x : X) (xs : List X) → sum_by f (if b then (x ∷ xs) else xs) ≡ (if b then f x else 0) + sum_by f xs
taken f true x xs = sum_by-cons f x xs
taken f false x xs = sym (zero-add (sum_by f xs))

filtered : {X : Type 0} (f : X → ℕ) (test : X → Bool) (x : X) (xs : List X) → sum_by f (filter test (x ∷ xs)) ≡ (if test x then f x else 0) + sum_by f (filter test xs)
filtered f test x xs = taken f (test x) x (filter test xs)

one_of_both : (b : Bool) (n : ℕ) → (if b then n else 0) + (if not b then n else 0) ≡ n
one_of_both true n = omega arith
one_of_both false n = omega arith

both_sums : {X : Type 0} (f : X → ℕ) (test : X → Bool) (xs : List X) → sum_by f (filter test xs) + sum_by f (filter (λ x. not (test x)) xs) ≡ sum_by f xs
both_sums f test [] = refl
both_sums f test (x ∷ xs) =
    omega (arith, filtered f test x xs, filtered f (λ y. not (test y)) x xs, both_sums f test xs, sum_by-cons f x xs, one_of_both (test x) (f x))

module _ (p : ℕ) (xs : List ℕ) (ts : Terms) where
  pub above_parts : sum_above p (terms_among xs ts) + sum_above p (terms_besides xs ts) ≡ sum_above p ts
  above_parts = both_sums (λ (u : ℕ × Monomial). above p u.0) (λ u. is_among xs u.1) ts

  pub below_parts : sum_below p (terms_among xs ts) + sum_below p (terms_besides xs ts) ≡ sum_below p ts
  below_parts = both_sums (λ (u : ℕ × Monomial). below p u.0) (λ u. is_among xs u.1) ts

-- ---- Euclid's algorithm

-- more steps than enough change nothing
steps_enough : (n m a b : ℕ) → b ≤ n → b ≤ m → divisor_in n a b ≡ divisor_in m a b
steps_enough zero zero a b g h = refl
steps_enough zero (suc m) a b g h = sym (cond-true _ _ _ (eq-eqb b 0 (omega arith)))
steps_enough (suc n) zero a b g h = cond-true _ _ _ (eq-eqb b 0 (omega arith))
steps_enough (suc n) (suc m) a b g h =
    elim (cases_Bool (b == 0)) [
      | inl none ↦ cond-true _ _ _ none ∙ sym (cond-true _ _ _ none)
      | inr some ↦
          let less : a % b < b = mod-lt a (omega (arith, eqb-false b 0 some)) in
          cond-false _ _ _ some ∙ steps_enough n m b (a % b) (omega (arith, less)) (omega (arith, less)) ∙ sym (cond-false _ _ _ some)
    ]

pub divisor_step : (a b : ℕ) → b ≢ 0 → common_divisor b (a % b) ≡ common_divisor a b
unfolding common_divisor
divisor_step a b some =
    let less : a % b < b = mod-lt a (omega (arith, some)) in
    steps_enough (a % b) (b - 1) b (a % b) (omega arith) (omega (arith, less))
    ∙ sym (cond-false _ _ _ (ne_eqb b 0 some))
    ∙ steps_enough (suc (b - 1)) b a b (omega arith) (omega arith)

pub divisor_end : (a : ℕ) → a ≡ common_divisor a 0
unfolding common_divisor
divisor_end a = refl

-- ---- what has no sum 0

abbrev apart : ℕ → ℕ → ℕ → ℕ → ℕ → Bool
apart a b c d g = nat_lt (b + d) a || nat_lt (a + c) b || not (distance a b % g == 0)

pub apart_is : (p : ℕ) (e : Extent) (left : Left) (ts rest : Terms) → IsExtent p e ts → IsExtent p left.extent rest → left.divisor ≡ divisor_of p rest → is_apart e left ≡ is_impossible p ts rest
apart_is p e left ts rest is other divisor =
    ap₂ (λ a b. apart a b left.extent.above left.extent.below left.divisor) is.above is.below
    ∙ ap₂ (λ c d. apart (sum_above p ts) (sum_below p ts) c d left.divisor) other.above other.below
    ∙ ap (apart (sum_above p ts) (sum_below p ts) (sum_above p rest) (sum_below p rest)) divisor
