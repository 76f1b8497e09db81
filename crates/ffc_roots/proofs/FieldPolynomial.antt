-- The polynomial X^p - X over the integers modulo p: each residue is a root of it, none a double one, and a divisor of it is a
-- product of different factors X - root (Lidl and Niederreiter, "Finite Fields", chapter 2, section 1).
use Rattle.std.proofs.Common.{◌≡◌, ◌≢◌, ℕ, zero, suc, ◌+◌, ◌-◌, ◌*◌, ◌%◌, ◌^◌, ◌<◌, ◌≤◌, ◌⊎◌, inl, inr, List, [], ◌∷◌, length, All, refl, sym, ap, ap₂, ◌∙◌, subst, arith, mod-eq_of_lt, mod-lt, mul_left_comm}
use Rattle.std.proofs.Math.Nat.{mod-mod, add-mod, mul-mod_right, mod_self, zero-mod, pow-zero, pow-succ'}
use Rattle.std.proofs.lemmas.Bool.{cases_lt}
use Rattle.ffc_field.specs.Modular.{IsPrime, mul_mod}
use Rattle.ffc_field.proofs.Primes.{no_zero_product, zero_multiple, fermat}
use Rattle.ffc_ring.proofs.PolynomialLemmas.{sum_alike}
use Rattle.ffc_uni.specs.Rows.{shifted}
use Rattle.ffc_uni.specs.Univariate.{Coefficients, coefficient_at, SameUnivariate, IsNormal, indeterminate, plus, multiple, times, product_of_roots, sum_at, value_of}
use Rattle.ffc_uni.proofs.ValueLemmas.{sum_at-plus, sum_at-multiple, sum_at-times, one_value, value_of-times}
use Rattle.ffc_uni.proofs.Coefficients.{coefficient_at-plus, coefficient_at-multiple, times_alike_first, times_alike_second}
use Rattle.ffc_roots.specs.Divisors.{IsDivisor, field_polynomial}
use Rattle.ffc_roots.proofs.RootLemmas.{product_root}
use Rattle.ffc_roots.proofs.Identities.{by_values, factor, factored, quotient_at, all_but_one}
use Rattle.ffc_roots.proofs.Degrees.{VanishesFrom, HasDegree, vanishes_alike, constant_left, degree_of, degree_of_normal, low_factor, cancel_factor}

-- ---- rearranged products

swapped : (p : ℕ) (a b c : Coefficients) → SameUnivariate p (times a (times b c)) (times (times b a) c)
swapped p a b c = by_values p (times a (times b c)) (times (times b a) c) (λ x. simp sum_at-times (omega arith))

regrouped : (p : ℕ) (a b c d : Coefficients) → SameUnivariate p (times a (times (times b c) d)) (times (times b a) (times c d))
regrouped p a b c d = by_values p (times a (times (times b c) d)) (times (times b a) (times c d)) (λ x. simp sum_at-times (omega arith))

regrouped_second : (p : ℕ) (a b c d : Coefficients) → SameUnivariate p (times a (times c (times b d))) (times (times b a) (times c d))
regrouped_second p a b c d = by_values p (times a (times c (times b d))) (times (times b a) (times c d)) (λ x. simp sum_at-times (omega arith))

pub commuted : (p : ℕ) (a b : Coefficients) → SameUnivariate p (times a b) (times b a)
commuted p a b = by_values p (times a b) (times b a) (λ x. simp sum_at-times (omega arith))

pub times_nothing : (p : ℕ) (a : Coefficients) → SameUnivariate p (times a []) []
times_nothing p a = by_values p (times a []) [] (λ x. simp sum_at-times (omega arith))

once : (p : ℕ) (a : Coefficients) → SameUnivariate p a (times (1 ∷ []) a)
once p a = by_values p a (times (1 ∷ []) a) (λ x. simp (sum_at-plus, sum_at-multiple) (omega arith))

by_constant : (p c : ℕ) (a : Coefficients) → SameUnivariate p (times a (c ∷ [])) (multiple c a)
by_constant p c a = by_values p (times a (c ∷ [])) (multiple c a) (λ x. simp (sum_at-times, sum_at-multiple) (omega arith))

pub constant_zero : (p c : ℕ) → c % p ≡ 0 → SameUnivariate p (c ∷ []) []
constant_zero p c e zero = e ∙ sym (zero-mod p)
constant_zero p c e (suc k) = refl

-- ---- the roots of X^p - X

pub sum_at-shifted : (x n : ℕ) → sum_at x (shifted n (1 ∷ [])) ≡ x ^ n
sum_at-shifted x zero = (let one : 1 + x * 0 ≡ 1 = omega arith in one) ∙ sym (pow-zero x)
sum_at-shifted x (suc n) = (let same : 0 + x * sum_at x (shifted n (1 ∷ [])) ≡ x * x ^ n = omega (arith, ap (λ m. x * m) (sum_at-shifted x n)) in same) ∙ sym (pow-succ' x n)

vanishes_at : (p x : ℕ) → IsPrime p → value_of p x (field_polynomial p) ≡ 0
unfolding field_polynomial
vanishes_at p x prime =
    let some : 0 < p = omega (arith, prime.least) in
    let single : sum_at x indeterminate ≡ x = omega arith in
    ap (λ n. n % p) (sum_at-plus x (shifted p (1 ∷ [])) (multiple (p - 1) indeterminate) ∙ ap₂ ◌+◌ (sum_at-shifted x p) (sum_at-multiple x (p - 1) indeterminate ∙ ap (λ n. (p - 1) * n) single))
    ∙ sum_alike p (x ^ p) x ((p - 1) * x) ((p - 1) * x) (fermat p prime x) refl
    ∙ ap (λ n. n % p) (let whole : x + (p - 1) * x ≡ p * x = omega (arith, all_but_one p x some) in whole)
    ∙ mul-mod_right p x

-- ---- its degree

shifted_above : (n j : ℕ) → n < j → coefficient_at (shifted n (1 ∷ [])) j ≡ 0
shifted_above zero zero h = absurd (omega arith)
shifted_above zero (suc j) h = refl
shifted_above (suc n) zero h = absurd (omega arith)
shifted_above (suc n) (suc j) h = shifted_above n j (omega arith)

shifted_leads : (n : ℕ) → coefficient_at (shifted n (1 ∷ [])) n ≡ 1
shifted_leads zero = refl
shifted_leads (suc n) = shifted_leads n

indeterminate_above : (j : ℕ) → 2 ≤ j → coefficient_at indeterminate j ≡ 0
indeterminate_above zero h = absurd (omega arith)
indeterminate_above (suc zero) h = absurd (omega arith)
indeterminate_above (suc (suc j)) h = refl

field_coefficient : (p j : ℕ) → 2 ≤ j → coefficient_at (field_polynomial p) j ≡ coefficient_at (shifted p (1 ∷ [])) j
unfolding field_polynomial
field_coefficient p j above =
    coefficient_at-plus (shifted p (1 ∷ [])) (multiple (p - 1) indeterminate) j
    ∙ (let rest : coefficient_at (multiple (p - 1) indeterminate) j ≡ (p - 1) * 0 = coefficient_at-multiple (p - 1) indeterminate j ∙ ap (λ n. (p - 1) * n) (indeterminate_above j above) in omega arith)

field_low : (p : ℕ) → IsPrime p → VanishesFrom p (suc p) (field_polynomial p)
field_low p prime j above =
    ap (λ n. n % p) (field_coefficient p j (omega (arith, prime.least)) ∙ shifted_above p j (omega arith)) ∙ zero-mod p

field_leads : (p : ℕ) → IsPrime p → coefficient_at (field_polynomial p) p % p ≡ 0 → ⊥
field_leads p prime none =
    let one : coefficient_at (field_polynomial p) p % p ≡ 1 =
    ap (λ n. n % p) (field_coefficient p p (omega (arith, prime.least)) ∙ shifted_leads p) ∙ mod-eq_of_lt (omega (arith, prime.least)) in
    omega arith

pub field_polynomial_some : (p : ℕ) → IsPrime p → SameUnivariate p (field_polynomial p) [] → ⊥
field_polynomial_some p prime none = field_leads p prime (none p ∙ zero-mod p)

-- ---- products of factors X - root

times_factor_at : (b : ℕ) (g : Coefficients) (k : ℕ) → coefficient_at (times (b ∷ 1 ∷ []) g) (suc k) ≡ b * coefficient_at g (suc k) + coefficient_at g k
times_factor_at b g k =
    let nothing : (j : ℕ) → coefficient_at (0 ∷ []) j ≡ 0 = elim [ zero ↦ refl | suc j ↦ refl ] in
    coefficient_at-plus (multiple b g) (0 ∷ times (1 ∷ []) g) (suc k)
    ∙ omega (arith, coefficient_at-multiple b g (suc k), coefficient_at-plus (multiple 1 g) (0 ∷ []) k, coefficient_at-multiple 1 g k, nothing k)

pub none_above_roots : (p : ℕ) (roots : List ℕ) (k : ℕ) → length roots < k → coefficient_at (product_of_roots p roots) k ≡ 0
none_above_roots p [] zero h = absurd (omega arith)
none_above_roots p [] (suc k) h = refl
none_above_roots p (a ∷ roots) zero h = absurd (omega arith)
none_above_roots p (a ∷ roots) (suc k) h =
    let g = product_of_roots p roots in
    times_factor_at (p - a) g k
    ∙ ap (λ n. (p - a) * n + coefficient_at g k) (none_above_roots p roots (suc k) (omega arith))
    ∙ omega (arith, none_above_roots p roots k (omega arith))

pub roots_lead : (p : ℕ) (roots : List ℕ) → coefficient_at (product_of_roots p roots) (length roots) ≡ 1
roots_lead p [] = refl
roots_lead p (a ∷ roots) =
    let g = product_of_roots p roots in
    let n = length roots in
    times_factor_at (p - a) g n
    ∙ ap (λ m. (p - a) * m + coefficient_at g n) (none_above_roots p roots (suc n) (omega arith))
    ∙ omega (arith, roots_lead p roots)

pub degree_of_roots : (p : ℕ) (roots : List ℕ) → IsPrime p → HasDegree p (length roots) (product_of_roots p roots)
degree_of_roots p roots prime = record {
  low = λ j above. ap (λ n. n % p) (none_above_roots p roots j (omega arith)) ∙ zero-mod p;
  leads = λ none. let one : coefficient_at (product_of_roots p roots) (length roots) % p ≡ 1 = ap (λ n. n % p) (roots_lead p roots) ∙ mod-eq_of_lt (omega (arith, prime.least)) in omega arith;
}

-- ---- divisors are split

-- a list that falls, from below n
abbrev pub FallsBelow : ℕ → List ℕ → Type 0
FallsBelow n [] = Unit {0}
FallsBelow n (z ∷ zs) = (z < n) × FallsBelow z zs

falls_later : (m n : ℕ) (zs : List ℕ) → m ≤ n → FallsBelow m zs → FallsBelow n zs
falls_later m n [] more falls = tt
falls_later m n (z ∷ zs) more falls = (omega (arith, falls.0), falls.1)

all_below : (n : ℕ) (zs : List ℕ) → FallsBelow n zs → All (λ z. z < n) zs
all_below n [] falls k d within = absurd (omega arith)
all_below n (z ∷ zs) falls zero d within = falls.0
all_below n (z ∷ zs) falls (suc k) d within = let less = all_below z zs falls.1 k d (omega arith) in omega (arith, less, falls.0)

pub zero_factor : (p x : ℕ) (a b : Coefficients) → IsPrime p → value_of p x (times a b) ≡ 0 → (value_of p x a ≡ 0) ⊎ (value_of p x b ≡ 0)
zero_factor p x a b prime none =
    let some : 0 < p = omega (arith, prime.least) in
    no_zero_product p (value_of p x a) (value_of p x b) prime (mod-lt (sum_at x a) some) (mod-lt (sum_at x b) some) (sym (value_of-times p x a b) ∙ none)

no_root_at : (p n : ℕ) (ws : List ℕ) → IsPrime p → n < p → FallsBelow n ws → value_of p n (product_of_roots p ws) ≡ 0 → ⊥
no_root_at p n ws prime below falls none =
    let small = all_below n ws falls in
    let there = product_root p n ws prime below (λ k d within. let less = small k d within in omega (arith, less)) none in
    let less = small there.0 n there.1 in
    omega (arith, less, there.2)

-- what is known of a factor g of X^p - X once the residues below n are divided out
pub record Peeled (p n : ℕ) (g : Coefficients) : Type 0 where
  pub own : List ℕ
  pub all : List ℕ
  pub left : Coefficients
  pub other : Coefficients
  pub own_fall : FallsBelow n own
  pub all_fall : FallsBelow n all
  pub count : length all ≡ n
  pub factor_is : SameUnivariate p g (times (product_of_roots p own) left)
  pub whole_is : SameUnivariate p (field_polynomial p) (times (product_of_roots p all) (times left other))

peel_own : (p n : ℕ) (g : Coefficients) (s : Peeled p n g) → n < p → value_of p n s.left ≡ 0 → Peeled p (suc n) g
peel_own p n g s below none =
    let quotient = quotient_at n s.left in
    let parts : SameUnivariate p s.left (times (factor p n) quotient) = factored p n s.left below none in
    record {
      own = n ∷ s.own;
      all = n ∷ s.all;
      left = quotient;
      other = s.other;
      own_fall = (omega arith, s.own_fall);
      all_fall = (omega arith, s.all_fall);
      count = ap suc s.count;
      factor_is = λ j.
          s.factor_is j
          ∙ times_alike_second p (product_of_roots p s.own) s.left (times (factor p n) quotient) parts j
          ∙ swapped p (product_of_roots p s.own) (factor p n) quotient j;
      whole_is = λ j.
          s.whole_is j
          ∙ times_alike_second p (product_of_roots p s.all) (times s.left s.other) (times (times (factor p n) quotient) s.other) (times_alike_first p s.left (times (factor p n) quotient) s.other parts) j
          ∙ regrouped p (product_of_roots p s.all) (factor p n) quotient s.other j;
    }

peel_other : (p n : ℕ) (g : Coefficients) (s : Peeled p n g) → n < p → value_of p n s.other ≡ 0 → Peeled p (suc n) g
peel_other p n g s below none =
    let quotient = quotient_at n s.other in
    let parts : SameUnivariate p s.other (times (factor p n) quotient) = factored p n s.other below none in
    record {
      own = s.own;
      all = n ∷ s.all;
      left = s.left;
      other = quotient;
      own_fall = falls_later n (suc n) s.own (omega arith) s.own_fall;
      all_fall = (omega arith, s.all_fall);
      count = ap suc s.count;
      factor_is = s.factor_is;
      whole_is = λ j.
          s.whole_is j
          ∙ times_alike_second p (product_of_roots p s.all) (times s.left s.other) (times s.left (times (factor p n) quotient)) (times_alike_second p s.left s.other (times (factor p n) quotient) parts) j
          ∙ regrouped_second p (product_of_roots p s.all) (factor p n) s.left quotient j;
    }

peel : (p : ℕ) (g k : Coefficients) → IsPrime p → SameUnivariate p (field_polynomial p) (times g k) → (n : ℕ) → n ≤ p → Peeled p n g
peel p g k prime whole zero within = record {
  own = [];
  all = [];
  left = g;
  other = k;
  own_fall = tt;
  all_fall = tt;
  count = refl;
  factor_is = once p g;
  whole_is = λ j. whole j ∙ once p (times g k) j;
}
peel p g k prime whole (suc n) within =
    let s = peel p g k prime whole n (omega arith) in
    let below : n < p = omega arith in
    let none = sym (one_value p n (field_polynomial p) (times (product_of_roots p s.all) (times s.left s.other)) s.whole_is) ∙ vanishes_at p n prime in
    elim (zero_factor p n (product_of_roots p s.all) (times s.left s.other) prime none) [
      | inl first ↦ absurd (no_root_at p n s.all prime below s.all_fall first)
      | inr later ↦ elim (zero_factor p n s.left s.other prime later) [
        | inl own ↦ peel_own p n g s below own
        | inr other ↦ peel_other p n g s below other
      ]
    ]

-- a constant multiple of the product of different factors X - root
pub record IsSplit (p : ℕ) (g : Coefficients) : Type 0 where
  pub roots : List ℕ
  pub scale : ℕ
  pub falls : FallsBelow p roots
  pub some : scale % p ≡ 0 → ⊥
  pub is : SameUnivariate p g (multiple scale (product_of_roots p roots))

pub divisors_split : (p : ℕ) (g : Coefficients) → IsPrime p → IsDivisor p g (field_polynomial p) → IsSplit p g
divisors_split p g prime divides =
    let s = peel p g divides.0 prime (λ j. divides.1 j ∙ commuted p divides.0 g j) p (omega arith) in
    let all = product_of_roots p s.all in
    let left = times s.left s.other in
    let degree : HasDegree p p all = subst (λ n. HasDegree p n all) s.count (degree_of_roots p s.all prime) in
    let left_low : VanishesFrom p 1 left =
    low_factor p left all p 1 prime degree (vanishes_alike p (1 + p) (field_polynomial p) (times left all) (λ j. s.whole_is j ∙ commuted p all left j) (λ j above. field_low p prime j (omega arith))) in
    let nonzero : SameUnivariate p left [] → ⊥ = λ none.
    field_polynomial_some p prime (λ j. s.whole_is j ∙ times_alike_second p all left [] none j ∙ times_nothing p all j) in
    let c = coefficient_at s.left 0 in
    elim (degree_of p s.other) [
      | inl none ↦ absurd (nonzero (λ j. times_alike_second p s.left s.other [] none j ∙ times_nothing p s.left j))
      | inr high ↦
          let low : VanishesFrom p 1 s.left = low_factor p s.left s.other high.0 1 prime high.1 (λ j above. left_low j (omega arith)) in
          let constant : SameUnivariate p s.left (c ∷ []) = constant_left p s.left low in
          record {
            roots = s.own;
            scale = c;
            falls = s.own_fall;
            some = λ zero_is. nonzero (λ j. times_alike_first p s.left [] s.other (λ i. constant i ∙ constant_zero p c zero_is i) j);
            is = λ j.
                s.factor_is j
                ∙ times_alike_second p (product_of_roots p s.own) s.left (c ∷ []) constant j
                ∙ by_constant p c (product_of_roots p s.own) j;
          }
    ]

-- ---- two roots

pub factor_at_root : (p x : ℕ) → x ≤ p → value_of p x (factor p x) ≡ 0
factor_at_root p x below = ap (λ n. n % p) (let whole : p - x + x * (1 + x * 0) ≡ p = omega arith in whole) ∙ mod_self p

-- where a factor is 0 the product is
pub zero_product : (p x : ℕ) (a b : Coefficients) → value_of p x b ≡ 0 → value_of p x (times a b) ≡ 0
zero_product p x a b none = value_of-times p x a b ∙ ap (mul_mod p (value_of p x a)) none ∙ zero_multiple p (value_of p x a) 0 (zero-mod p)

pub record TwoRoots (p : ℕ) (g : Coefficients) : Type 0 where
  pub first : ℕ
  pub second : ℕ
  pub first_below : first < p
  pub second_below : second < p
  pub apart : first ≢ second
  pub first_root : value_of p first g ≡ 0
  pub second_root : value_of p second g ≡ 0

two_of_roots : (p c : ℕ) (g : Coefficients) (roots : List ℕ) → 2 ≤ length roots → FallsBelow p roots → SameUnivariate p g (multiple c (product_of_roots p roots)) → TwoRoots p g
two_of_roots p c g [] many falls same = absurd (omega arith)
two_of_roots p c g (s ∷ []) many falls same = absurd (omega arith)
two_of_roots p c g (s ∷ t ∷ roots) many falls same =
    let rest = product_of_roots p roots in
    let product = times (factor p s) (times (factor p t) rest) in
    let value : (x : ℕ) → value_of p x product ≡ 0 → value_of p x g ≡ 0 = λ x none.
    one_value p x g (multiple c product) same ∙ ap (λ n. n % p) (sum_at-multiple x c product) ∙ zero_multiple p c (sum_at x product) none in
    let at_factor : (x : ℕ) (a b : Coefficients) → value_of p x a ≡ 0 → value_of p x (times a b) ≡ 0 = λ x a b none. one_value p x (times a b) (times b a) (commuted p a b) ∙ zero_product p x b a none in
    record {
      first = s;
      second = t;
      first_below = falls.0;
      second_below = omega (arith, falls.0, falls.1);
      apart = λ same. omega (arith, falls.1.0);
      first_root = value s (at_factor s (factor p s) (times (factor p t) rest) (factor_at_root p s (omega (arith, falls.0))));
      second_root = value t (zero_product p t (factor p s) (times (factor p t) rest) (at_factor t (factor p t) rest (factor_at_root p t (omega (arith, falls.0, falls.1.0)))));
    }

-- a divisor of degree 2 or more has two different roots
pub two_roots : (p : ℕ) (g : Coefficients) → IsPrime p → IsNormal p g → 3 ≤ length g → IsDivisor p g (field_polynomial p) → TwoRoots p g
two_roots p g prime normal long divides =
    let s = divisors_split p g prime divides in
    let n = length g - 1 in
    let degree : HasDegree p n g = degree_of_normal p g n normal (omega arith) in
    let many : n ≤ length s.roots = elim (cases_lt (length s.roots) n) [
      | inr enough ↦ enough
      | inl few ↦ absurd (degree.leads (s.is n ∙ ap (λ m. m % p) (coefficient_at-multiple s.scale (product_of_roots p s.roots) n ∙ ap (λ m. s.scale * m) (none_above_roots p s.roots n few)) ∙ (let none : s.scale * 0 ≡ 0 = omega arith in ap (λ m. m % p) none) ∙ zero-mod p))
    ] in
    two_of_roots p s.scale g s.roots (omega arith) s.falls s.is

-- ---- no double root

slope-plus : (x : ℕ) (a b : Coefficients) → sum_at x (quotient_at x (plus a b)) ≡ sum_at x (quotient_at x a) + sum_at x (quotient_at x b)
slope-plus x [] b = omega arith
slope-plus x (c ∷ a) [] = omega arith
slope-plus x (c ∷ a) (d ∷ b) = omega (arith, sum_at-plus x a b, ap (λ n. x * n) (slope-plus x a b))

slope-multiple : (x c : ℕ) (a : Coefficients) → sum_at x (quotient_at x (multiple c a)) ≡ c * sum_at x (quotient_at x a)
slope-multiple x c [] = omega arith
slope-multiple x c (d ∷ a) = omega (arith, sum_at-multiple x c a, ap (λ n. x * n) (slope-multiple x c a))

slope-power : (x n : ℕ) → sum_at x (quotient_at x (shifted (suc n) (1 ∷ []))) ≡ suc n * x ^ n
slope-power x zero = omega (arith, pow-zero x)
slope-power x (suc n) =
    let y = x ^ suc n in
    ap₂ (λ (a b : ℕ). a + x * b) (sum_at-shifted x (suc n)) (slope-power x n)
    ∙ ap (λ m. y + m) (mul_left_comm x (suc n) (x ^ n) ∙ ap (λ m. suc n * m) (sym (pow-succ' x n)))
    ∙ omega arith

field_slope : (p x : ℕ) → IsPrime p → sum_at x (quotient_at x (field_polynomial p)) % p ≡ 0 → ⊥
unfolding field_polynomial
field_slope zero x prime none = absurd (omega (arith, prime.least))
field_slope (suc n) x prime none =
    let p = suc n in
    let single : sum_at x (quotient_at x indeterminate) ≡ 1 = omega arith in
    let whole : sum_at x (quotient_at x (plus (shifted p (1 ∷ [])) (multiple (p - 1) indeterminate))) ≡ p * x ^ n + (p - 1) =
    slope-plus x (shifted p (1 ∷ [])) (multiple (p - 1) indeterminate)
    ∙ ap₂ ◌+◌ (slope-power x n) (slope-multiple x (p - 1) indeterminate ∙ ap (λ m. (p - 1) * m) single ∙ omega arith) in
    let left : (p * x ^ n + (p - 1)) % p ≡ p - 1 =
    add-mod (p * x ^ n) (p - 1) p ∙ ap (λ m. (m + (p - 1) % p) % p) (mul-mod_right p (x ^ n)) ∙ (let same : 0 + (p - 1) % p ≡ (p - 1) % p = omega arith in ap (λ m. m % p) same) ∙ mod-mod (p - 1) p ∙ mod-eq_of_lt (omega arith) in
    let sum : p - 1 ≡ 0 = sym left ∙ ap (λ m. m % p) (sym whole) ∙ none in
    omega (arith, prime.least)

pub no_double_root : (p x : ℕ) (m : Coefficients) → IsPrime p → x < p → SameUnivariate p (field_polynomial p) (times (factor p x) (times (factor p x) m)) → ⊥
no_double_root p x m prime below double =
    let f = field_polynomial p in
    let q = quotient_at x f in
    let n = times (factor p x) m in
    let single : SameUnivariate p f (times (factor p x) q) = factored p x f below (vanishes_at p x prime) in
    let degree : HasDegree p 1 (factor p x) = record {
      low = elim [ zero ↦ λ h. absurd (omega arith) | suc zero ↦ λ h. absurd (omega arith) | suc (suc j) ↦ λ h. zero-mod p ];
      leads = λ none. let one : 1 % p ≡ 1 = mod-eq_of_lt (omega (arith, prime.least)) in omega arith;
    } in
    let same : SameUnivariate p q n = cancel_factor p q n (factor p x) 1 prime degree (λ j. commuted p q (factor p x) j ∙ sym (single j) ∙ double j ∙ commuted p (factor p x) n j) in
    field_slope p x prime
    (one_value p x q n same
    ∙ one_value p x n (times m (factor p x)) (commuted p (factor p x) m)
    ∙ zero_product p x m (factor p x) (factor_at_root p x (omega arith)))
