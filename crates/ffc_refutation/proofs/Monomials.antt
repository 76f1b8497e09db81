-- Monomials of lists of terms: those of a normal list are among those of the list, and they differ, so there are no more.
use Rattle.std.proofs.Common.{◌≡◌, ◌≢◌, ℕ, zero, suc, ◌+◌, ◌%◌, ◌<◌, ◌≤◌, ◌||◌, max, fold, Bool, true, false, cond, List, [], ◌∷◌, ◌++◌, length, All, Contains, refl, sym, ap, ◌∙◌, inl, inr, arith}
use Rattle.std.specs.List.{list_any}
use Rattle.std.proofs.lemmas.Bool.{cases_eq, or_cases, or_left, or_right, false≢true}
use Rattle.std.proofs.lemmas.List.Elements.{All-contains}
use Rattle.ffc_ring.specs.Monomial.{Monomial, degree, same_monomial}
use Rattle.ffc_ring.specs.Polynomial.{Terms, IsNoneOf, term_product}
use Rattle.ffc_ring.proofs.PolynomialLemmas.{cases_monomial, same_monomial-true, same_monomial-equal}
use Rattle.ffc_trees.specs.Normal.{term_before, with_term, normal, degree_of, monomials_of, IsNormal}
use Rattle.ffc_trees.specs.NodePolynomials.{EachMonomial}
use Rattle.ffc_trees.proofs.NormalLemmas.{none_before, some_before, met, passed_by, normal_is_normal}

-- ---- what holds of each monomial

module _ (P : Monomial → Type 0) where
  pub each_append : (a b : Terms) → EachMonomial P a → EachMonomial P b → EachMonomial P (a ++ b)
  each_append [] b x y = y
  each_append (t ∷ a) b x y = (x.0, each_append a b x.1 y)

  each_before : (p c : ℕ) (m : Monomial) (ts : Terms) → P m → EachMonomial P ts → EachMonomial P (term_before p c m ts)
  each_before p c m ts x y =
      elim (cases_eq (c % p) 0) as (λ _. EachMonomial P (term_before p c m ts)) [
        | inl none ↦ rw (none_before p c m ts none) y
        | inr some ↦ rw (some_before p c m ts some) (x, y)
      ]

  each_with_term : (p c : ℕ) (m : Monomial) (ts : Terms) → P m → EachMonomial P ts → EachMonomial P (with_term p c m ts)
  each_with_term p c m [] x y = each_before p c m [] x tt
  each_with_term p c m (t ∷ ts) x y =
      elim (cases_monomial m t.1) as (λ _. EachMonomial P (with_term p c m (t ∷ ts))) [
        | inl e ↦ rw (met p c m t ts e) (each_before p (c + t.0) m ts x y.1)
        | inr other ↦ rw (passed_by p c m t ts other) (y.0, each_with_term p c m ts x y.1)
      ]

  pub each_normal : (p : ℕ) (ts : Terms) → EachMonomial P ts → EachMonomial P (normal p ts)
  unfolding normal
  each_normal p [] y = tt
  each_normal p (t ∷ ts) y = each_with_term p t.0 t.1 (normal p ts) y.0 (each_normal p ts y.1)

  pub each_weaker : (Q : Monomial → Type 0) → ((m : Monomial) → P m → Q m) → (ts : Terms) → EachMonomial P ts → EachMonomial Q ts
  each_weaker Q f [] x = tt
  each_weaker Q f (t ∷ ts) x = (f t.1 x.0, each_weaker Q f ts x.1)

  -- those of a multiple by a constant
  pub each_times : (k : ℕ) (ts : Terms) → EachMonomial P ts → EachMonomial P (term_product k [] ts)
  each_times k [] x = tt
  each_times k (t ∷ ts) x = (x.0, each_times k ts x.1)

-- ---- degrees

greatest_low : (d s : ℕ) (ts : Terms) → s ≤ d → EachMonomial (λ m. degree m ≤ d) ts → fold (λ a (t : ℕ × Monomial). max a (degree t.1)) s ts ≤ d
greatest_low d s [] low each = low
greatest_low d s (t ∷ ts) low each = greatest_low d (max s (degree t.1)) ts (omega (arith, each.0)) each.1

pub degree_low : (d : ℕ) (ts : Terms) → EachMonomial (λ m. degree m ≤ d) ts → degree_of ts ≤ d
degree_low d ts each = greatest_low d 0 ts (omega arith) each

-- ---- how many there are

is_in : List Monomial → Monomial → Bool
is_in ms m = list_any (same_monomial m) ms

-- some monomials without the first that is this one
taken : Monomial → List Monomial → List Monomial
taken m [] = []
taken m (n ∷ ms) = cond (same_monomial m n) ms (n ∷ taken m ms)

length-taken : (m : Monomial) (ms : List Monomial) → is_in ms m ≡ true → suc (length (taken m ms)) ≡ length ms
unfolding is_in taken
length-taken m [] has = absurd (false≢true has)
length-taken m (n ∷ ms) has = by_first (same_monomial m n) has (length-taken m ms)
  where
    by_first : (b : Bool) → (b || list_any (same_monomial m) ms) ≡ true → (list_any (same_monomial m) ms ≡ true → suc (length (taken m ms)) ≡ length ms) → suc (length (cond b ms (n ∷ taken m ms))) ≡ suc (length ms)
    by_first true later rest = refl
    by_first false later rest = ap suc (rest later)

still_in : (m k : Monomial) (ms : List Monomial) → m ≢ k → is_in ms k ≡ true → is_in (taken m ms) k ≡ true
unfolding is_in taken
still_in m k [] other has = has
still_in m k (n ∷ ms) other has = by_first (same_monomial m n) refl (still_in m k ms other)
  where
    by_first : (b : Bool) → same_monomial m n ≡ b → (list_any (same_monomial k) ms ≡ true → list_any (same_monomial k) (taken m ms) ≡ true) → list_any (same_monomial k) (cond b ms (n ∷ taken m ms)) ≡ true
    by_first true is rest =
        elim (or_cases (same_monomial k n) (list_any (same_monomial k) ms) has) as (λ _. list_any (same_monomial k) ms ≡ true) [
          | inl here ↦ absurd (other (same_monomial-true m n is ∙ sym (same_monomial-true k n here)))
          | inr later ↦ later
        ]
    by_first false is rest =
        elim (or_cases (same_monomial k n) (list_any (same_monomial k) ms) has) as (λ _. (same_monomial k n || list_any (same_monomial k) (taken m ms)) ≡ true) [
          | inl here ↦ or_left (same_monomial k n) _ here
          | inr later ↦ or_right (same_monomial k n) _ (rest later)
        ]

all_still_in : (m : Monomial) (ms : List Monomial) (ts : Terms) → IsNoneOf (monomials_of ts) m → EachMonomial (λ k. is_in ms k ≡ true) ts → EachMonomial (λ k. is_in (taken m ms) k ≡ true) ts
all_still_in m ms [] none each = tt
all_still_in m ms (t ∷ ts) none each = (still_in m t.1 ms (λ e. none.0 (sym e)) each.0, all_still_in m ms ts none.1 each.1)

few_in : (p : ℕ) (ts : Terms) (ms : List Monomial) → IsNormal p ts → EachMonomial (λ k. is_in ms k ≡ true) ts → length ts ≤ length ms
few_in p [] ms is each = omega arith
few_in p (t ∷ ts) ms is each =
    let rest : length ts ≤ length (taken t.1 ms) = few_in p ts (taken t.1 ms) is.3 (all_still_in t.1 ms ts is.2 each.1) in
    let one : suc (length (taken t.1 ms)) ≡ length ms = length-taken t.1 ms each.0 in
    omega arith

contains_in : (ms : List Monomial) (m : Monomial) → Contains ms m → is_in ms m ≡ true
unfolding is_in
contains_in [] m (k, inside, at) = absurd (omega arith)
contains_in (n ∷ ms) m (zero, inside, at) = or_left (same_monomial m n) _ (same_monomial-equal m n (sym at))
contains_in (n ∷ ms) m (suc k, inside, at) = or_right (same_monomial m n) _ (contains_in ms m (k, omega arith, at))

-- a normal list has no more terms than there are monomials among which those of the list are
pub normal_few : (p : ℕ) (ts : Terms) (ms : List Monomial) → 0 < p → EachMonomial (Contains ms) ts → length (normal p ts) ≤ length ms
normal_few p ts ms positive each =
    few_in p (normal p ts) ms (normal_is_normal p ts positive)
    (each_weaker (Contains ms) (λ k. is_in ms k ≡ true) (contains_in ms) (normal p ts) (each_normal (Contains ms) p ts each))

pub normal_low : (p d : ℕ) (ts : Terms) (ms : List Monomial) → All (λ m. degree m ≤ d) ms → EachMonomial (Contains ms) ts → degree_of (normal p ts) ≤ d
normal_low p d ts ms low each =
    degree_low d (normal p ts)
    (each_weaker (Contains ms) (λ m. degree m ≤ d) (λ m has. All-contains (λ n. degree n ≤ d) ms m low has) (normal p ts) (each_normal (Contains ms) p ts each))
