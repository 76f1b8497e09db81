-- Roots of polynomials in one variable: how many there are, and the units to find them.
use Rattle.std.proofs.Common.{inl, inr, ◌⊎◌, ◌≡◌, ◌≢◌, ℕ, zero, suc, ◌+◌, ◌-◌, ◌*◌, ◌%◌, ◌<◌, ◌≤◌, max, List, [], ◌∷◌, length, get_or, All, Contains, refl, sym, ap, ◌∙◌, subst, arith, mul-le-mul_right, mod-eq_of_lt}
use Rattle.std.specs.List.{AllByRecursion, AllPairs}
use Rattle.std.specs.List.Sorted.{IsStrictlyIncreasing}
use Rattle.ffc_base.specs.declared.meter.Unit.TheVariants.{Chain}
use Rattle.ffc_base.specs.Metering.{Spending, spending, total, more}
use Rattle.ffc_field.specs.Modular.{IsPrime}
use Rattle.std.proofs.lemmas.List.Elements.{recursion_from_All}
use Rattle.std.proofs.lemmas.List.Kept.{AllPairs-from_increasing}
use Rattle.ffc_roots.specs.Roots.{IsRoot, AreRoots}
use Rattle.ffc_roots.specs.Separation.{HasFewerUnits, unit_bound}
use Rattle.ffc_roots.proofs.Degrees.{VanishesFrom, HasDegree, vanishes_past_the_end, vanishes_alike, vanishes_all, low_factor, exact}
use Rattle.ffc_roots.proofs.FieldPolynomial.{commuted, times_nothing, zero_factor, zero_product}
use Rattle.ffc_roots.proofs.Identities.{by_values, factor, factored, quotient_at}
use Rattle.ffc_roots.proofs.RootLemmas.{product_root}
use Rattle.ffc_rules.proofs.CaseLemmas.{each_contained}
use Rattle.ffc_uni.specs.Units.{IsChained}
use Rattle.ffc_uni.specs.Univariate.{Coefficients, SameUnivariate, IsNormal, plus, times, product_of_roots, value_of}
use Rattle.ffc_uni.proofs.Coefficients.{plus_alike, times_alike_second}
use Rattle.ffc_uni.proofs.ValueLemmas.{sum_at-times, one_normal, one_value}
use Rattle.ffc_single.specs.Outcomes.{root_units}

-- ---- the number of roots

-- no number is listed twice
abbrev AreDistinct : List ℕ → Type 0
AreDistinct [] = Unit {0}
AreDistinct (x ∷ xs) = AllByRecursion (λ other. x ≢ other) xs × AreDistinct xs

distinct_from_pairs : (xs : List ℕ) → AllPairs (λ a b. a < b) xs → AreDistinct xs
distinct_from_pairs [] increase = tt
distinct_from_pairs (x ∷ xs) increase = (
  recursion_from_All (λ other. x ≢ other) xs
      (λ k d inside. λ same. let less : x < get_or xs k d = increase 0 (suc k) d (omega arith) (omega arith) in omega (arith, less, same)),
  distinct_from_pairs xs (λ i j d less inside. increase (suc i) (suc j) d (omega arith) (omega arith)),
)

only_one : (c x : ℕ) → Contains (c ∷ []) x → c ≡ x
only_one c x (zero, inside, is) = is
only_one c x (suc k, inside, is) = absurd (omega arith)

module _ (p : ℕ) (prime : IsPrime p) where
  factor_degree : (x : ℕ) → HasDegree p 1 (factor p x)
  factor_degree x = record {
    low = vanishes_past_the_end p (factor p x) 2 (omega arith);
    leads = λ none. let one : 1 % p ≡ 1 = mod-eq_of_lt (omega (arith, prime.least)) in absurd (omega (arith, one, none));
  }

  -- another root is one of the quotient
  root_of_quotient : (x y : ℕ) (f q : Coefficients) → x < p → x ≢ y → SameUnivariate p f (times (factor p x) q) → IsRoot p f y → IsRoot p q y
  root_of_quotient x y f q below apart division root =
      let product : value_of p y (times (factor p x) q) ≡ 0 = sym (one_value p y f (times (factor p x) q) division) ∙ root.1 in
      elim (zero_factor p y (factor p x) q prime product) as (λ _. IsRoot p q y) [
        | inl here ↦
            let product_of_one : value_of p y (product_of_roots p (x ∷ [])) ≡ 0 =
            one_value p y (times (factor p x) (1 ∷ [])) (times (1 ∷ []) (factor p x)) (commuted p (factor p x) (1 ∷ [])) ∙ zero_product p y (1 ∷ []) (factor p x) here in
            absurd (apart (only_one x y (product_root p y (x ∷ []) prime root.0 (small x below) product_of_one)))
        | inr there ↦ (root.0, there)
      ]
    where
      small : (z : ℕ) → z < p → All (λ a. a < p) (z ∷ [])
      small z less zero d inside = less
      small z less (suc k) d inside = absurd (omega arith)

  -- different roots of a polynomial other than 0 are no more than its degree
  fewer_roots : (n : ℕ) (f : Coefficients) (xs : List ℕ) → VanishesFrom p n f → (SameUnivariate p f [] → ⊥) → AreDistinct xs → AllByRecursion (IsRoot p f) xs → length xs < n
  fewer_roots zero f xs low some distinct roots = absurd (some (vanishes_all p f low))
  fewer_roots (suc n) f [] low some distinct roots = omega arith
  fewer_roots (suc n) f (x ∷ xs) low some distinct roots =
      let q = quotient_at x f in
      let division : SameUnivariate p f (times (factor p x) q) = factored p x f roots.0.0 roots.0.1 in
      let swapped : SameUnivariate p f (times q (factor p x)) = λ k. division k ∙ commuted p (factor p x) q k in
      let same : suc n ≡ n + 1 = omega arith in
      let q_low : VanishesFrom p n q = low_factor p q (factor p x) 1 n prime (factor_degree x) (vanishes_alike p (n + 1) f (times q (factor p x)) swapped (subst (λ k. VanishesFrom p k f) same low)) in
      let q_some : SameUnivariate p q [] → ⊥ = λ none. some (λ k. division k ∙ times_alike_second p (factor p x) q [] none k ∙ times_nothing p (factor p x) k) in
      let rest = fewer_roots n q xs q_low q_some distinct.1 (quotient_roots x f q xs roots.0.0 division distinct.0 roots.1) in
      omega (arith, rest)
    where
      quotient_roots : (x : ℕ) (f q : Coefficients) (ys : List ℕ) → x < p → SameUnivariate p f (times (factor p x) q) → AllByRecursion (λ other. x ≢ other) ys → AllByRecursion (IsRoot p f) ys → AllByRecursion (IsRoot p q) ys
      quotient_roots x f q [] below division apart are = tt
      quotient_roots x f q (y ∷ ys) below division apart are = (root_of_quotient x y f q below apart.0 division are.0, quotient_roots x f q ys below division apart.1 are.1)

  pub few_roots : (g : Coefficients) (xs : List ℕ) → IsNormal p g → 1 ≤ length g → AreRoots p g xs → IsStrictlyIncreasing xs → length xs < length g
  few_roots g xs normal long roots increasing =
      fewer_roots (length g) g xs (vanishes_past_the_end p g (length g) (omega arith))
      (λ none. let empty = ap length (one_normal p g [] normal tt none) in omega (arith, empty))
      (distinct_from_pairs xs (AllPairs-from_increasing xs increasing)) (each_contained (IsRoot p g) xs (λ x has. (roots x).0 has))

  -- the quotient by X less a root leaves nothing
  pub without_root : (x : ℕ) (f b q r : Coefficients) → x < p → SameUnivariate p b (product_of_roots p (x ∷ [])) → value_of p x f ≡ 0 → SameUnivariate p f (plus (times q b) r) → length r < 2
      → SameUnivariate p f (times q (factor p x))
  without_root x f b q r below is root division short =
      let one : SameUnivariate p (times (factor p x) (1 ∷ [])) (factor p x) = λ k. commuted p (factor p x) (1 ∷ []) k ∙ by_one k in
      let same : SameUnivariate p b (factor p x) = λ k. is k ∙ one k in
      let divided : SameUnivariate p f (plus (times q (factor p x)) r) = λ k.
      division k ∙ plus_first (times q b) (times q (factor p x)) r (times_alike_second p q b (factor p x) same) k in
      let quotient = quotient_at x f in
      exact p f (factor p x) q quotient r 1 prime (factor_degree x) divided (λ k. factored p x f below root k ∙ commuted p (factor p x) quotient k) (omega (arith, short))
    where
      by_one : SameUnivariate p (times (1 ∷ []) (factor p x)) (factor p x)
      by_one = by_values p (times (1 ∷ []) (factor p x)) (factor p x) (λ y. simp sum_at-times (omega arith))

      plus_first : (a c d : Coefficients) → SameUnivariate p a c → SameUnivariate p (plus a d) (plus c d)
      plus_first a c d alike = plus_alike p a c d d alike (λ k. refl)

-- ---- units

-- where fewer units are left than there may be roots
pub too_few_to_try : (d left bound : ℕ) (s : Spending) → left + total s ≡ s.budget → left < d → HasFewerUnits s (root_units d bound)
too_few_to_try d left bound s all less = omega (arith, all, less)

-- where the roots aren't found within what is left but for one unit for each
pub too_few_to_find : (d left own bound : ℕ) (s part : Spending) → left + total s ≡ s.budget → own ≡ left - d → d ≤ left → part ≡ spending own 0 0 0 0
    → HasFewerUnits part (unit_bound d) ⊎ HasFewerUnits part (d * bound * unit_bound d) → HasFewerUnits s (root_units d bound)
too_few_to_find d left own bound s part all is enough start few =
    let once : 1 * unit_bound d ≤ max 1 (d * bound) * unit_bound d = mul-le-mul_right (unit_bound d) (let least : 1 ≤ max 1 (d * bound) = omega arith in least) in
    let often : d * bound * unit_bound d ≤ max 1 (d * bound) * unit_bound d = mul-le-mul_right (unit_bound d) (let most : d * bound ≤ max 1 (d * bound) = omega arith in most) in
    let needed : (n : ℕ) → n ≤ max 1 (d * bound) * unit_bound d → HasFewerUnits part n → HasFewerUnits s (root_units d bound) = λ n most fewer.
    (let less : own < 0 + n = subst (λ q. HasFewerUnits q n) start fewer in omega (arith, all, is, enough, most, less)) in
    elim few as (λ _. HasFewerUnits s (root_units d bound)) [
      | inl first ↦ needed (unit_bound d) (omega (arith, once)) first
      | inr second ↦ needed (d * bound * unit_bound d) often second
    ]

-- a meter of a part's own counts its chains
pub own_chains : (own : ℕ) (old new : Spending) → old ≡ spending own 0 0 0 0 → IsChained old new → total new ≡ new.chains
own_chains own old new start chained =
    let (n, is) = subst (λ (s : Spending). IsChained s new) start chained in
    subst (λ (s : Spending). total s ≡ s.chains) (sym is) (omega arith)

-- what is left after them
pub left_to_try : (d left own zeros count : ℕ) (s part new : Spending) → new ≡ more s Chain count → count ≡ part.chains → total part ≡ part.chains → part.budget ≡ own → total part ≤ part.budget
    → own ≡ left - d → d ≤ left → left + total s ≡ s.budget → zeros ≤ d → total new + zeros ≤ new.budget
left_to_try d left own zeros count s part new charged counted all budget within is enough left_is few =
    subst (λ (q : Spending). total q + zeros ≤ q.budget) (sym charged) (omega arith)
