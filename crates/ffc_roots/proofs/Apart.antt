-- What is kept while a polynomial is taken apart into its roots.
use Rattle.std.proofs.Common.{◌≡◌, ℕ, zero, suc, ◌-◌, ◌*◌, ◌%◌, ◌<◌, ◌≤◌, inl, inr, List, [], ◌∷◌, ◌++◌, length, Contains, refl, sym, ap, ◌∙◌, arith, mod-lt, mod-eq_of_lt}
use Rattle.std.proofs.Math.Nat.{mod_self, zero-mod}
use Rattle.std.proofs.lemmas.Nat.{mul-mod_second}
use Rattle.std.proofs.lemmas.Bool.{cases_eq}
use Rattle.ffc_field.specs.Modular.{IsPrime, neg_mod, mul_mod}
use Rattle.ffc_uni.specs.Univariate.{Coefficients, coefficient_at, SameUnivariate, multiple, times, product_of_roots, value_of}
use Rattle.ffc_uni.proofs.ValueLemmas.{sum_at-multiple, sum_at-times, sum_at-plus, one_value}
use Rattle.ffc_uni.proofs.Coefficients.{multiple_alike, times_alike_first, times_alike_second}
use Rattle.ffc_roots.specs.Roots.{IsRoot}
use Rattle.ffc_roots.specs.Divisors.{IsDivisor, field_polynomial}
use Rattle.ffc_roots.specs.Parts.{HasRoots, IsTakenApart, joined, together}
use Rattle.ffc_roots.specs.Separation.{AreSeparated}
use Rattle.ffc_roots.proofs.Identities.{by_values, factor, factored, quotient_at}
use Rattle.ffc_roots.proofs.Degrees.{constant_left, vanishes_past_the_end}
use Rattle.ffc_roots.proofs.FieldPolynomial.{commuted, zero_product, no_double_root}
use Rattle.ffc_roots.proofs.Rising.{has_factor}

-- ---- the product of what is pending

pub together-push : (p : ℕ) (fs : List Coefficients) (g : Coefficients) → SameUnivariate p (together (fs ++ g ∷ [])) (times (together fs) g)
together-push p [] g k = commuted p g (1 ∷ []) k
together-push p (f ∷ fs) g k =
    let all = together fs in
    times_alike_second p f (together (fs ++ g ∷ [])) (times all g) (together-push p fs g) k
    ∙ by_values p (times f (times all g)) (times (times f all) g) (λ x. simp sum_at-times (omega arith)) k

-- ---- what takes a polynomial apart

pub root_taken : (p r : ℕ) (f : Coefficients) (roots after : List ℕ) (pending : List Coefficients) → HasRoots p f (r ∷ [])
    → SameUnivariate p (product_of_roots p after) (product_of_roots p (r ∷ roots)) → IsTakenApart p f roots pending after pending
root_taken p r f roots after pending root more =
    let x = factor p r in
    let c = root.0 in
    let one = times x (1 ∷ []) in
    let old = product_of_roots p roots in
    let rest = together pending in (
      c,
      λ k.
          times_alike_first p f (multiple c one) (times old rest) root.1 k
          ∙ moved_into p c x old rest k
          ∙ multiple_alike p c (times (times x old) rest) (times (product_of_roots p after) rest) (times_alike_first p (times x old) (product_of_roots p after) rest (λ j. sym (more j))) k,
    )
  where
    moved_into : (p c : ℕ) (x a b : Coefficients) → SameUnivariate p (times (multiple c (times x (1 ∷ []))) (times a b)) (multiple c (times (times x a) b))
    moved_into p c x a b = by_values p (times (multiple c (times x (1 ∷ []))) (times a b)) (multiple c (times (times x a) b)) (λ y. simp (sum_at-times, sum_at-multiple) (omega arith))

pub constant_taken : (p : ℕ) (f : Coefficients) (roots : List ℕ) (pending : List Coefficients) → length f ≤ 1 → IsTakenApart p f roots pending roots pending
constant_taken p f roots pending short =
    let c = coefficient_at f 0 in
    let rest = joined p roots pending in (
      c,
      λ k.
          times_alike_first p f (c ∷ []) rest (constant_left p f (vanishes_past_the_end p f 1 short)) k
          ∙ scaled_by p c rest k,
    )
  where
    scaled_by : (p c : ℕ) (a : Coefficients) → SameUnivariate p (times (c ∷ []) a) (multiple c a)
    scaled_by p c a = by_values p (times (c ∷ []) a) (multiple c a) (λ y. simp (sum_at-plus, sum_at-multiple) (omega arith))

pub parts_taken : (p : ℕ) (f a b : Coefficients) (roots : List ℕ) (pending middle after : List Coefficients) → SameUnivariate p f (times a b)
    → middle ≡ pending ++ a ∷ [] → after ≡ middle ++ b ∷ [] → IsTakenApart p f roots pending roots after
parts_taken p f a b roots pending middle after same first second =
    let old = product_of_roots p roots in
    let rest = together pending in
    let whole : SameUnivariate p (together after) (times (times rest a) b) = λ k.
    ap (λ l. coefficient_at (together l) k % p) second
    ∙ together-push p middle b k
    ∙ ap (λ l. coefficient_at (times (together l) b) k % p) first
    ∙ times_alike_first p (together (pending ++ a ∷ [])) (times rest a) b (together-push p pending a) k in (
      1,
      λ k.
          times_alike_first p f (times a b) (times old rest) same k
          ∙ regrouped p a b old rest k
          ∙ multiple_alike p 1 (times old (times (times rest a) b)) (times old (together after)) (times_alike_second p old (times (times rest a) b) (together after) (λ j. sym (whole j))) k,
    )
  where
    regrouped : (p : ℕ) (a b c d : Coefficients) → SameUnivariate p (times (times a b) (times c d)) (multiple 1 (times c (times (times d a) b)))
    regrouped p a b c d = by_values p (times (times a b) (times c d)) (multiple 1 (times c (times (times d a) b))) (λ y. simp (sum_at-times, sum_at-multiple) (omega arith))

-- ---- one step of the whole

-- a product with its last pending factor in front
pub in_front : (p c : ℕ) (product f : Coefficients) (roots : List ℕ) (pending all : List Coefficients) → SameUnivariate p product (multiple c (joined p roots all)) → all ≡ pending ++ f ∷ []
    → SameUnivariate p product (multiple c (times f (joined p roots pending)))
in_front p c product f roots pending all same last k =
    let old = product_of_roots p roots in
    let rest = together pending in
    same k
    ∙ ap (λ l. coefficient_at (multiple c (joined p roots l)) k % p) last
    ∙ multiple_alike p c (times old (together (pending ++ f ∷ []))) (times f (times old rest))
    (λ j. times_alike_second p old (together (pending ++ f ∷ [])) (times rest f) (together-push p pending f) j ∙ turned p old rest f j) k
  where
    turned : (p : ℕ) (a b c : Coefficients) → SameUnivariate p (times a (times b c)) (times c (times a b))
    turned p a b c = by_values p (times a (times b c)) (times c (times a b)) (λ y. simp sum_at-times (omega arith))

pub front_divides : (p c : ℕ) (product f : Coefficients) (roots : List ℕ) (pending : List Coefficients) → SameUnivariate p product (multiple c (times f (joined p roots pending)))
    → IsDivisor p f product
front_divides p c product f roots pending same = (
  multiple c (joined p roots pending),
  λ k. same k ∙ by_values p (multiple c (times f (joined p roots pending))) (times (multiple c (joined p roots pending)) f) (λ y. simp (sum_at-times, sum_at-multiple) (omega arith)) k,
)

pub front_with_roots_divides : (p c : ℕ) (product f : Coefficients) (roots : List ℕ) (pending : List Coefficients) → SameUnivariate p product (multiple c (times f (joined p roots pending)))
    → IsDivisor p (times f (product_of_roots p roots)) product
front_with_roots_divides p c product f roots pending same =
    let old = product_of_roots p roots in
    let rest = together pending in (
      multiple c rest,
      λ k. same k ∙ by_values p (multiple c (times f (times old rest))) (times (multiple c rest) (times f old)) (λ y. simp (sum_at-times, sum_at-multiple) (omega arith)) k,
    )

pub taken_further : (p c : ℕ) (product f : Coefficients) (roots roots_after : List ℕ) (pending pending_after : List Coefficients) → SameUnivariate p product (multiple c (times f (joined p roots pending)))
    → IsTakenApart p f roots pending roots_after pending_after → (d : ℕ) × SameUnivariate p product (multiple d (joined p roots_after pending_after))
taken_further p c product f roots roots_after pending pending_after same taken =
    let after = joined p roots_after pending_after in (
      c * taken.0,
      λ k.
          same k
          ∙ multiple_alike p c (times f (joined p roots pending)) (multiple taken.0 after) taken.1 k
          ∙ by_values p (multiple c (multiple taken.0 after)) (multiple (c * taken.0) after) (λ y. simp sum_at-multiple (omega arith)) k,
    )

-- nothing is pending
pub all_taken : (p c : ℕ) (product : Coefficients) (roots : List ℕ) (pending : List Coefficients) → SameUnivariate p product (multiple c (joined p roots pending)) → pending ≡ [] → HasRoots p product roots
all_taken p c product roots pending same none = (
  c,
  λ k.
      same k
      ∙ ap (λ l. coefficient_at (multiple c (joined p roots l)) k % p) none
      ∙ multiple_alike p c (times (product_of_roots p roots) (1 ∷ [])) (product_of_roots p roots) (λ j. once p (product_of_roots p roots) j) k,
)
  where
    once : (p : ℕ) (a : Coefficients) → SameUnivariate p (times a (1 ∷ [])) a
    once p a = by_values p (times a (1 ∷ [])) a (λ y. simp sum_at-times (omega arith))

-- what is pending at first
pub nothing_taken : (p : ℕ) (product : Coefficients) (pending : List Coefficients) → pending ≡ product ∷ [] → (c : ℕ) × SameUnivariate p product (multiple c (joined p [] pending))
nothing_taken p product pending single = (
  1,
  λ k.
      by_values p product (multiple 1 (times (1 ∷ []) (times product (1 ∷ [])))) (λ y. simp (sum_at-times, sum_at-multiple) (omega arith)) k
      ∙ ap (λ l. coefficient_at (multiple 1 (joined p [] l)) k % p) (sym single),
)

-- ---- roots

pub root_of_multiple : (p s : ℕ) (g f : Coefficients) → IsDivisor p g f → IsRoot p g s → IsRoot p f s
root_of_multiple p s g f divides root = (root.0, one_value p s f (times divides.0 g) divides.1 ∙ zero_product p s divides.0 g root.1)

pub separated_of_divisor : (p bound : ℕ) (g f : Coefficients) → IsDivisor p g f → AreSeparated p f bound → AreSeparated p g bound
separated_of_divisor p bound g f divides separated s t first second differ =
    separated s t (root_of_multiple p s g f divides first) (root_of_multiple p t g f divides second) differ

-- The root of a factor is none of those that were found before.
pub root_is_new : (p r : ℕ) (f : Coefficients) (roots : List ℕ) → IsPrime p → r < p → HasRoots p f (r ∷ []) → IsDivisor p (times f (product_of_roots p roots)) (field_polynomial p)
    → Contains roots r → ⊥
root_is_new p r f roots prime below root divides there =
    let x = factor p r in
    let q = divides.0 in
    let c = root.0 in
    let one = times x (1 ∷ []) in
    let old = product_of_roots p roots in
    let again = has_factor p r roots there in
    let m = multiple c (times q again.0) in
    no_double_root p r m prime below
    (λ k.
    divides.1 k
    ∙ times_alike_second p q (times f old) (times (multiple c one) (times x again.0))
    (λ j. times_alike_first p f (multiple c one) old root.1 j ∙ times_alike_second p (multiple c one) old (times x again.0) again.1 j) k
    ∙ doubled p c q x again.0 k)
  where
    doubled : (p c : ℕ) (q x m : Coefficients) → SameUnivariate p (times q (times (multiple c (times x (1 ∷ []))) (times x m))) (times x (times x (multiple c (times q m))))
    doubled p c q x m = by_values p (times q (times (multiple c (times x (1 ∷ []))) (times x m))) (times x (times x (multiple c (times q m)))) (λ y. simp (sum_at-times, sum_at-multiple) (omega arith))

-- what p - r leaves, where r is the negation of m
complement : (p m : ℕ) → m < p → (p - neg_mod p m) % p ≡ m % p
complement p m below = elim (cases_eq m 0) [
  | inl none ↦
      let root : neg_mod p m ≡ 0 = (let whole : p - m ≡ p = omega arith in ap (λ n. n % p) whole) ∙ mod_self p in
      let rest : p - neg_mod p m ≡ p = omega arith in
      ap (λ n. n % p) rest ∙ mod_self p ∙ sym (ap (λ n. n % p) none ∙ zero-mod p)
  | inr some ↦
      let root : neg_mod p m ≡ p - m = mod-eq_of_lt (omega arith) in
      let rest : p - neg_mod p m ≡ m = omega arith in
      ap (λ n. n % p) rest
]

-- X + c is the factor of its root
linear_is_factor : (p c : ℕ) (g : Coefficients) → c < p → SameUnivariate p g (c ∷ 1 ∷ []) → SameUnivariate p g (factor p (neg_mod p c))
linear_is_factor p c g below same = λ k. same k ∙ at k
  where
    at : (k : ℕ) → coefficient_at (c ∷ 1 ∷ []) k % p ≡ coefficient_at (factor p (neg_mod p c)) k % p
    at zero = sym (complement p c below)
    at (suc k) = refl

-- where -c is a root, X + c is a divisor
pub linear_divides : (p c : ℕ) (f g : Coefficients) → 0 < p → c < p → SameUnivariate p g (c ∷ 1 ∷ []) → value_of p (neg_mod p c) f ≡ 0 → IsDivisor p g f
linear_divides p c f g some below same none =
    let x = factor p (neg_mod p c) in
    let q = quotient_at (neg_mod p c) f in (
      q,
      λ k.
          factored p (neg_mod p c) f (mod-lt (p - c) some) none k
          ∙ commuted p x q k
          ∙ times_alike_second p q x g (λ j. sym (linear_is_factor p c g below same j)) k,
    )

-- the constant coefficient of b times the factor of -a/b
constant_is : (p a b inverse root : ℕ) → 0 < p → mul_mod p b inverse ≡ 1 → root ≡ neg_mod p (mul_mod p a inverse) → a % p ≡ (b * (p - root)) % p
constant_is p a b inverse root some unit is =
    let m = mul_mod p a inverse in
    let rest : (p - root) % p ≡ m % p = ap (λ r. (p - r) % p) is ∙ complement p m (mod-lt (a * inverse) some) in
    (let one : a ≡ a * 1 = omega arith in ap (λ n. n % p) one)
    ∙ ap (λ n. (a * n) % p) (sym unit)
    ∙ mul-mod_second a (b * inverse) p
    ∙ (let order : a * (b * inverse) ≡ b * (a * inverse) = omega arith in ap (λ n. n % p) order)
    ∙ sym (mul-mod_second b (a * inverse) p)
    ∙ sym (mul-mod_second b m p)
    ∙ ap (λ n. (b * n) % p) (sym rest)
    ∙ mul-mod_second b (p - root) p

pub linear_has_root : (p a b inverse root : ℕ) → 1 < p → mul_mod p b inverse ≡ 1 → root ≡ neg_mod p (mul_mod p a inverse) → HasRoots p (a ∷ b ∷ []) (root ∷ [])
linear_has_root p a b inverse root two unit is = (
  b,
  λ k. at k ∙ by_values p (multiple b (factor p root)) (multiple b (times (factor p root) (1 ∷ []))) (λ y. simp (sum_at-plus, sum_at-multiple) (omega arith)) k,
)
  where
    at : (k : ℕ) → coefficient_at (a ∷ b ∷ []) k % p ≡ coefficient_at (multiple b (factor p root)) k % p
    at zero = constant_is p a b inverse root (omega arith) unit is
    at (suc zero) = (let same : b ≡ b * 1 = omega arith in ap (λ n. n % p) same)
    at (suc (suc k)) = refl
