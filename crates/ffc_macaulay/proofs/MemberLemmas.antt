-- Which monomials there are in some variables up to a degree.
use Rattle.std.proofs.Common.{◌≡◌, ◌≢◌, ◌⊎◌, inl, inr, ℕ, zero, suc, ◌+◌, ◌-◌, ◌<◌, ◌≤◌, List, [], ◌∷◌, map, Contains, refl, sym, ap, ap₂, ◌∙◌, subst, arith}
use Rattle.std.specs.Prelude.{flat_map, slice_index}
use Rattle.std.specs.List.{range_with_len, AllByRecursion}
use Rattle.std.specs.List.Sorted.{IsStrictlyIncreasing}
use Rattle.std.proofs.lemmas.Bool.{cases_eq}
use Rattle.std.proofs.lemmas.List.Elements.{Contains-append_left, Contains-append_right, Contains-append_cases}
use Rattle.ffc_ring.specs.Monomial.{Monomial, IsMonomial, IsMonomialFrom, exponent, degree, mono_mul}
use Rattle.ffc_ring.specs.Counting.{IsAmong, IsIn}
use Rattle.ffc_ring.proofs.MonomialLemmas.{exponent-here, exponent-there, exponent-below, IsMonomial-mono_mul, exponent-mono_mul, degree-mono_mul, mono_mul_assoc, mono_mul_comm, mono_mul_one, with_power-front, with_power-same}
use Rattle.ffc_bounds.specs.Monomials.{power, with_powers, monomials}
use Rattle.ffc_macaulay.specs.MonomialLaws.{IsUpTo}
use Rattle.ffc_macaulay.proofs.CountLemmas.{degree-times_power, each_flat}

-- ---- members of lists

pub contains_first : {A : Type 0} (x : A) (xs : List A) → Contains (x ∷ xs) x
contains_first x xs = (0, omega arith, refl)

pub contains_cases : {A : Type 0} (y : A) (ys : List A) (x : A) → Contains (y ∷ ys) x → (y ≡ x) ⊎ Contains ys x
contains_cases y ys x (zero, less, at) = inl at
contains_cases y ys x (suc k, less, at) = inr (k, omega arith, at)

pub contains_none : {A : Type 0} (x : A) → Contains [] x → ⊥
contains_none x has = omega (arith, has.1)

pub contained_each : {A : Type 0} (P : A → Type 0) (xs : List A) (x : A) → AllByRecursion P xs → Contains xs x → P x
contained_each P [] x each has = absurd (contains_none x has)
contained_each P (y ∷ ys) x each has = elim (contains_cases y ys x has) as (λ _. P x) [
  | inl here ↦ subst P here each.0
  | inr later ↦ contained_each P ys x each.1 later
]

pub each_weaker : {A : Type 0} (P Q : A → Type 0) → ((x : A) → P x → Q x) → (xs : List A) → AllByRecursion P xs → AllByRecursion Q xs
each_weaker P Q f [] h = tt
each_weaker P Q f (x ∷ xs) h = (f x h.0, each_weaker P Q f xs h.1)

-- ---- the powers of a variable

pub power_is : (x e : ℕ) → IsMonomial (power x e)
power_is x zero = tt
power_is x (suc e) = (omega arith, omega arith, tt)

other_exponent : (x e y : ℕ) → y ≢ x → exponent (power x e) y ≡ 0
other_exponent x zero y other = refl
other_exponent x (suc e) y other = exponent-there (x, suc e) [] y other

power_exponent : (x e : ℕ) → exponent (power x e) x ≡ e
power_exponent x zero = refl
power_exponent x (suc e) = exponent-here (x, suc e) [] x refl

power_product : (x i j : ℕ) → mono_mul (power x i) (power x j) ≡ power x (i + j)
power_product x zero j = ap (power x) (let e : j ≡ 0 + j = omega arith in e)
power_product x (suc i) zero = mono_mul_one (power x (suc i)) (power_is x (suc i)) ∙ ap (power x) (let e : suc i ≡ suc i + 0 = omega arith in e)
power_product x (suc i) (suc j) = with_same ∙ ap (power x) (let e : suc (i + suc j) ≡ suc i + suc j = omega arith in e)
  where
    with_same : mono_mul (power x (suc i)) (power x (suc j)) ≡ power x (suc (i + suc j))
    with_same = with_power-same ◌+◌ x (suc i) (x, suc j) [] refl ∙ ap (λ k. (x, k) ∷ []) (let e : suc i + suc j ≡ suc (i + suc j) = omega arith in e)

-- ---- products with powers: which there are

in_powers : (x : ℕ) (m : Monomial) (e n i : ℕ) → e ≤ i → i < e + n → Contains (map (λ k. mono_mul (power x k) m) (range_with_len e n)) (mono_mul (power x i) m)
in_powers x m e zero i above below = absurd (omega arith)
in_powers x m e (suc n) i above below = elim (cases_eq e i) [
  | inl same ↦ subst (λ k. Contains (map (λ k. mono_mul (power x k) m) (range_with_len e (suc n))) (mono_mul (power x k) m)) same (contains_first (mono_mul (power x e) m) (map (λ k. mono_mul (power x k) m) (range_with_len (e + 1) n)))
  | inr other ↦
      Contains-append_right (mono_mul (power x e) m ∷ []) (map (λ k. mono_mul (power x k) m) (range_with_len (e + 1) n)) (mono_mul (power x i) m)
      (in_powers x m (e + 1) n i (omega (arith, other)) (omega arith))
]

pub in_product : (d x : ℕ) (ms : List Monomial) (m : Monomial) (e : ℕ) → Contains ms m → e ≤ d - degree m → Contains (flat_map (with_powers d x) ms) (mono_mul (power x e) m)
in_product d x [] m e has low = absurd (contains_none m has)
in_product d x (n ∷ ms) m e has low = elim (contains_cases n ms m has) as (λ _. Contains (flat_map (with_powers d x) (n ∷ ms)) (mono_mul (power x e) m)) [
  | inl here ↦
      Contains-append_left (with_powers d x n) (flat_map (with_powers d x) ms) (mono_mul (power x e) m)
      (subst (λ k. Contains (with_powers d x k) (mono_mul (power x e) m)) (sym here) (in_powers x m 0 (suc (d - degree m)) e (omega arith) (omega arith)))
  | inr later ↦ Contains-append_right (with_powers d x n) (flat_map (with_powers d x) ms) (mono_mul (power x e) m) (in_product d x ms m e later low)
]

-- a monomial times a power
pub record IsProduct (d x : ℕ) (ms : List Monomial) (k : Monomial) : Type 0 where
  pub rest : Monomial
  pub exponent_is : ℕ
  pub listed : Contains ms rest
  pub low : exponent_is ≤ d - degree rest
  pub product : k ≡ mono_mul (power x exponent_is) rest

of_powers : (x : ℕ) (m k : Monomial) (e n : ℕ) → Contains (map (λ i. mono_mul (power x i) m) (range_with_len e n)) k → (i : ℕ) × (i < e + n) × (k ≡ mono_mul (power x i) m)
of_powers x m k e zero has = absurd (contains_none k has)
of_powers x m k e (suc n) has = elim (contains_cases (mono_mul (power x e) m) (map (λ i. mono_mul (power x i) m) (range_with_len (e + 1) n)) k has) as (λ _. (i : ℕ) × (i < e + suc n) × (k ≡ mono_mul (power x i) m)) [
  | inl here ↦ (e, omega arith, sym here)
  | inr later ↦ let found = of_powers x m k (e + 1) n later in (found.0, omega (arith, found.1), found.2)
]

pub of_product : (d x : ℕ) (ms : List Monomial) (k : Monomial) → Contains (flat_map (with_powers d x) ms) k → IsProduct d x ms k
of_product d x [] k has = absurd (contains_none k has)
of_product d x (m ∷ ms) k has = elim (Contains-append_cases (with_powers d x m) (flat_map (with_powers d x) ms) k has) as (λ _. IsProduct d x (m ∷ ms) k) [
  | inl here ↦
      let found = of_powers x m k 0 (suc (d - degree m)) here in
      record { rest = m; exponent_is = found.0; listed = contains_first m ms; low = omega (arith, found.1); product = found.2 }
  | inr later ↦
      let found = of_product d x ms k later in
      record { rest = found.rest; exponent_is = found.exponent_is; listed = Contains-append_right (m ∷ []) ms found.rest found.listed; low = found.low; product = found.product }
]

-- ---- they are monomials in the variables, up to the degree

is_up_to-product : (d x : ℕ) (xs : List ℕ) (m : Monomial) (e : ℕ) → IsUpTo d xs m → e + degree m ≤ d → IsUpTo d (x ∷ xs) (mono_mul (power x e) m)
is_up_to-product d x xs m e is low = record {
  monomial = IsMonomial-mono_mul (power x e) m (power_is x e) is.monomial;
  variables = λ y some. elim (cases_eq y x) [
    | inl same ↦ inl same
    | inr other ↦
        inr (is.variables y (λ none. some (exponent-mono_mul (power x e) m (power_is x e) is.monomial y ∙ ap₂ (λ a b. a + b) (other_exponent x e y other) none)))
  ];
  low = let degree_is = degree-times_power x e m in omega (arith, degree_is);
}

up_to_powers : (d x : ℕ) (xs : List ℕ) (m : Monomial) (e n : ℕ) → IsUpTo d xs m → e + n + degree m ≤ suc d → AllByRecursion (IsUpTo d (x ∷ xs)) (map (λ i. mono_mul (power x i) m) (range_with_len e n))
up_to_powers d x xs m e zero is h = tt
up_to_powers d x xs m e (suc n) is h = (is_up_to-product d x xs m e is (omega arith), up_to_powers d x xs m (e + 1) n is (omega arith))

pub are_up_to : (d : ℕ) (xs : List ℕ) → AllByRecursion (IsUpTo d xs) (monomials d xs)
are_up_to d [] = (record { monomial = tt; variables = λ x some. some refl; low = omega arith }, tt)
are_up_to d (x ∷ xs) =
    each_flat (IsUpTo d (x ∷ xs)) (IsUpTo d xs) d x (λ m is. let low = is.low in up_to_powers d x xs m 0 (suc (d - degree m)) is (omega arith)) (monomials d xs) (are_up_to d xs)

pub up_to_at : (d : ℕ) (xs : List ℕ) (m : Monomial) → Contains (monomials d xs) m → IsUpTo d xs m
up_to_at d xs m has = contained_each (IsUpTo d xs) (monomials d xs) m (are_up_to d xs) has

-- ---- products

-- the factors of two products exchanged
exchanged : (a m b n : Monomial) → IsMonomial a → IsMonomial m → IsMonomial b → IsMonomial n → mono_mul (mono_mul a m) (mono_mul b n) ≡ mono_mul (mono_mul a b) (mono_mul m n)
exchanged a m b n ia im ib in' =
    let imn = IsMonomial-mono_mul m n im in' in
    let ibn = IsMonomial-mono_mul b n ib in' in
    mono_mul_assoc a m (mono_mul b n) ia im ibn
    ∙ ap (mono_mul a) (sym (mono_mul_assoc m b n im ib in') ∙ ap (λ k. mono_mul k n) (mono_mul_comm m b im ib) ∙ mono_mul_assoc b m n ib im in')
    ∙ sym (mono_mul_assoc a b (mono_mul m n) ia ib imn)

pub product_listed : (d a b : ℕ) (xs : List ℕ) (m n : Monomial) → a + b ≤ d → Contains (monomials a xs) m → Contains (monomials b xs) n → Contains (monomials d xs) (mono_mul m n)
product_listed d a b [] m n low left right =
    elim (contains_cases [] [] m left) as (λ _. Contains (monomials d []) (mono_mul m n)) [
      | inl one ↦
          elim (contains_cases [] [] n right) as (λ _. Contains (monomials d []) (mono_mul m n)) [
            | inl also ↦ subst (λ k. Contains (monomials d []) k) (ap₂ mono_mul one also) (contains_first [] [])
            | inr none ↦ absurd (contains_none n none)
          ]
      | inr none ↦ absurd (contains_none m none)
    ]
product_listed d a b (x ∷ xs) m n low left right =
    let p = of_product a x (monomials a xs) m left in
    let q = of_product b x (monomials b xs) n right in
    let pu = up_to_at a xs p.rest p.listed in
    let qu = up_to_at b xs q.rest q.listed in
    let pl : p.exponent_is + degree p.rest ≤ a = omega (arith, p.low, pu.low) in
    let ql : q.exponent_is + degree q.rest ≤ b = omega (arith, q.low, qu.low) in
    let rest = product_listed d a b xs p.rest q.rest low p.listed q.listed in
    let is : mono_mul m n ≡ mono_mul (power x (p.exponent_is + q.exponent_is)) (mono_mul p.rest q.rest) =
    ap₂ mono_mul p.product q.product
    ∙ exchanged (power x p.exponent_is) p.rest (power x q.exponent_is) q.rest (power_is x p.exponent_is) pu.monomial (power_is x q.exponent_is) qu.monomial
    ∙ ap (λ k. mono_mul k (mono_mul p.rest q.rest)) (power_product x p.exponent_is q.exponent_is) in
    let within : p.exponent_is + q.exponent_is ≤ d - degree (mono_mul p.rest q.rest) = omega (arith, pl, ql, degree-mono_mul p.rest q.rest) in
    subst (Contains (monomials d (x ∷ xs))) (sym is) (in_product d x (monomials d xs) (mono_mul p.rest q.rest) (p.exponent_is + q.exponent_is) rest within)

-- ---- each such monomial is there

-- the variables increase from a number on
abbrev pub Ascends : ℕ → List ℕ → Type 0
Ascends low [] = Unit {0}
Ascends low (x ∷ xs) = (low ≤ x) × Ascends (suc x) xs

ascends_after : (x : ℕ) (xs : List ℕ) → IsStrictlyIncreasing (x ∷ xs) → Ascends (suc x) xs
ascends_after x [] h = tt
ascends_after x (y ∷ ys) h =
    let first : x < y = h 0 (omega arith) in
    let later : IsStrictlyIncreasing (y ∷ ys) = λ k less.
    subst (λ i. slice_index (y ∷ ys) k < slice_index (x ∷ y ∷ ys) i) (let e : suc k + 1 ≡ suc (k + 1) = omega arith in e) (h (suc k) (omega arith)) in
    (omega arith, ascends_after y ys later)

pub ascends : (xs : List ℕ) → IsStrictlyIncreasing xs → Ascends 0 xs
ascends [] h = tt
ascends (x ∷ xs) h = (omega arith, ascends_after x xs h)

pub among_above : (low : ℕ) (xs : List ℕ) (y : ℕ) → Ascends low xs → IsAmong xs y → low ≤ y
among_above low [] y h among = absurd among
among_above low (x ∷ xs) y h among = elim among [
  | inl same ↦ omega (arith, same, h.0)
  | inr later ↦ let above = among_above (suc x) xs y h.1 later in omega (arith, above, h.0)
]

module _ (d : ℕ) where
  -- without the first variable
  listed_without : (x : ℕ) (xs : List ℕ) (m : Monomial) → Contains (monomials d xs) m → Contains (monomials d (x ∷ xs)) m
  listed_without x xs m listed = in_product d x (monomials d xs) m 0 listed (omega arith)

  listed_from : (low : ℕ) (xs : List ℕ) (m : Monomial) → Ascends low xs → IsMonomialFrom low m → IsIn xs m → degree m ≤ d → Contains (monomials d xs) m
  listed_from low [] [] up is within small = contains_first [] []
  listed_from low [] (p ∷ m) up is within small = absurd (within p.0 (λ none. let here = exponent-here p m p.0 refl in omega (arith, here, none, is.1)))
  listed_from low (x ∷ xs) [] up is within small = listed_without x xs [] (listed_from (suc x) xs [] up.1 tt (λ y some. absurd (some refl)) small)
  listed_from low (x ∷ xs) (p ∷ m) up is within small =
      let there : exponent (p ∷ m) p.0 ≢ 0 = λ none. let here = exponent-here p m p.0 refl in omega (arith, here, none, is.1) in
      elim (within p.0 there) as (λ _. Contains (monomials d (x ∷ xs)) (p ∷ m)) [
        | inl same ↦ with_it same (λ after rest. listed_from (suc x) xs m up.1 after rest (omega arith))
        | inr among ↦ without_it (among_above (suc x) xs p.0 up.1 among) (λ after rest. listed_from (suc x) xs (p ∷ m) up.1 after rest small)
      ]
    where
      with_it : p.0 ≡ x → (IsMonomialFrom (suc x) m → IsIn xs m → Contains (monomials d xs) m) → Contains (monomials d (x ∷ xs)) (p ∷ m)
      with_it same listed_rest =
          let after : IsMonomialFrom (suc x) m = subst (λ k. IsMonomialFrom (suc k) m) same is.2 in
          let rest : IsIn xs m = λ y some.
          let other : y ≢ p.0 = λ e. some (exponent-below (suc p.0) m y is.2 (omega (arith, e))) in
          let has : exponent (p ∷ m) y ≢ 0 = λ none. some (sym (exponent-there p m y other) ∙ none) in
          elim (within y has) [ inl also ↦ absurd (other (also ∙ sym same)) | inr among ↦ among ] in
          let whole = in_product d x (monomials d xs) m p.1 (listed_rest after rest) (omega arith) in
          subst (Contains (monomials d (x ∷ xs))) (front p.1 is.1 ∙ ap (λ k. (k, p.1) ∷ m) (sym same)) whole
        where
          front : (e : ℕ) → 1 ≤ e → mono_mul (power x e) m ≡ (x, e) ∷ m
          front zero positive = absurd (omega arith)
          front (suc e) positive = with_power-front ◌+◌ (x, suc e) m (subst (λ k. IsMonomialFrom (suc k) m) same is.2)

      without_it : suc x ≤ p.0 → (IsMonomialFrom (suc x) (p ∷ m) → IsIn xs (p ∷ m) → Contains (monomials d xs) (p ∷ m)) → Contains (monomials d (x ∷ xs)) (p ∷ m)
      without_it above listed_rest =
          let after : IsMonomialFrom (suc x) (p ∷ m) = (above, is.1, is.2) in
          let rest : IsIn xs (p ∷ m) = λ y some.
          elim (within y some) [
            | inl same ↦ absurd (some (exponent-below (suc x) (p ∷ m) y after (omega (arith, same))))
            | inr among ↦ among
          ] in
          listed_without x xs (p ∷ m) (listed_rest after rest)

pub are_all : (d : ℕ) (xs : List ℕ) → IsStrictlyIncreasing xs → (m : Monomial) → IsUpTo d xs m → Contains (monomials d xs) m
are_all d xs up m is = listed_from d 0 xs m (ascends xs up) is.monomial is.variables is.low
