-- How many monomials there are in some variables up to a degree, and how this number grows.
use Rattle.std.proofs.Common.{◌≡◌, ◌≢◌, ℕ, zero, suc, ◌+◌, ◌-◌, ◌*◌, ◌/◌, ◌^◌, ◌<◌, ◌≤◌, ◌==◌, Bool, true, false, cond, List, [], ◌∷◌, ◌++◌, length, map, take, drop, get_or, refl, sym, ap, ap₂, ◌∙◌, arith, append_assoc, append-nil, drop-cons}
use Rattle.std.specs.Prelude.{sum_by, flat_map, nat_lt}
use Rattle.std.specs.List.{range_with_len, AllByRecursion}
use Rattle.std.proofs.Math.Nat.{mul-le-mul_left}
use Rattle.std.proofs.lemmas.Nat.{div-mul-add}
use Rattle.std.proofs.lemmas.Grind.{flat_map-append}
use Rattle.std.proofs.lemmas.List.{take_more}
use Rattle.std.proofs.lemmas.List.FromFn.{map-range_with_len_more}
use Rattle.std.proofs.lemmas.List.Sums.{sum_by-cons, sum_by-append}
use Rattle.ffc_field.specs.Binomial.{choose, choose-none, choose-all, choose-above, choose-absorb}
use Rattle.ffc_ring.specs.Monomial.{Monomial, degree, mono_mul, with_power}
use Rattle.ffc_ring.proofs.CountingLemmas.{pascal}
use Rattle.ffc_ring.proofs.MonomialLemmas.{degree-mono_mul}
use Rattle.ffc_bounds.specs.Monomials.{power, with_powers, monomials, rows}

pub degree-power : (x e : ℕ) → degree (power x e) ≡ e
degree-power x zero = refl
degree-power x (suc e) = omega arith

pub degree-times_power : (x e : ℕ) (m : Monomial) → degree (mono_mul (power x e) m) ≡ e + degree m
degree-times_power x e m = degree-mono_mul (power x e) m ∙ ap (λ k. k + degree m) (degree-power x e)

pub each-append : {A : Type 0} (P : A → Type 0) (xs ys : List A) → AllByRecursion P xs → AllByRecursion P ys → AllByRecursion P (xs ++ ys)
each-append P [] ys h k = k
each-append P (x ∷ xs) ys h k = (h.0, each-append P xs ys h.1 k)

-- what holds of each monomial times powers
pub each_flat : (P Q : Monomial → Type 0) (d x : ℕ) → ((m : Monomial) → Q m → AllByRecursion P (with_powers d x m)) → (ms : List Monomial) → AllByRecursion Q ms → AllByRecursion P (flat_map (with_powers d x) ms)
each_flat P Q d x f [] h = tt
each_flat P Q d x f (m ∷ ms) h = each-append P (with_powers d x m) (flat_map (with_powers d x) ms) (f m h.0) (each_flat P Q d x f ms h.1)

-- ---- degrees

low_powers : (d x : ℕ) (m : Monomial) (e n : ℕ) → e + n + degree m ≤ suc d → AllByRecursion (λ k. degree k ≤ d) (map (λ i. mono_mul (power x i) m) (range_with_len e n))
low_powers d x m e zero h = tt
low_powers d x m e (suc n) h =
    (let is = degree-times_power x e m in omega (arith, is), low_powers d x m (e + 1) n (omega arith))

pub low_monomials : (d : ℕ) (xs : List ℕ) → AllByRecursion (λ m. degree m ≤ d) (monomials d xs)
low_monomials d [] = (omega arith, tt)
low_monomials d (x ∷ xs) =
    each_flat (λ m. degree m ≤ d) (λ m. degree m ≤ d) d x (λ m low. low_powers d x m 0 (suc (d - degree m)) (omega arith)) (monomials d xs) (low_monomials d xs)

-- ---- how many

-- each monomial counted by the ways to multiply it by powers of j more variables
abbrev tally : ℕ → ℕ → List Monomial → ℕ
tally d j ms = sum_by (λ m. choose (d - degree m + j) j) ms

tally-powers : (d j x : ℕ) (m : Monomial) (e n : ℕ) → e + n + degree m ≡ suc d → tally d j (map (λ i. mono_mul (power x i) m) (range_with_len e n)) ≡ choose (n + j) (suc j)
tally-powers d j x m e zero at = sym (choose-above (0 + j) (suc j) (omega arith))
tally-powers d j x m e (suc n) at =
    let product = mono_mul (power x e) m in
    let top : d - degree product ≡ n = let is = degree-times_power x e m in omega (arith, is, at) in
    let first : choose (d - degree product + j) j ≡ choose (n + j) j = ap (λ k. choose (k + j) j) top in
    let whole : choose (suc n + j) (suc j) ≡ choose (n + j) j + choose (n + j) (suc j) =
    ap (λ k. choose k (suc j)) (let s : suc n + j ≡ suc (n + j) = omega arith in s) ∙ pascal (n + j) j in
    sum_by-cons (λ k. choose (d - degree k + j) j) product (map (λ i. mono_mul (power x i) m) (range_with_len (e + 1) n))
    ∙ ap₂ (λ a b. a + b) first (tally-powers d j x m (e + 1) n (omega arith))
    ∙ sym whole

tally-flat : (d j x : ℕ) (ms : List Monomial) → AllByRecursion (λ m. degree m ≤ d) ms → tally d j (flat_map (with_powers d x) ms) ≡ tally d (suc j) ms
tally-flat d j x [] low = refl
tally-flat d j x (m ∷ ms) low =
    let more : suc (d - degree m) + j ≡ d - degree m + suc j = omega arith in
    let full : 0 + suc (d - degree m) + degree m ≡ suc d = omega (arith, low.0) in
    sum_by-append (λ k. choose (d - degree k + j) j) (with_powers d x m) (flat_map (with_powers d x) ms)
    ∙ ap₂ (λ a b. a + b) (tally-powers d j x m 0 (suc (d - degree m)) full ∙ ap (λ k. choose k (suc j)) more) (tally-flat d j x ms low.1)
    ∙ sym (sum_by-cons (λ k. choose (d - degree k + suc j) (suc j)) m ms)

tally-monomials : (d j : ℕ) (xs : List ℕ) → tally d j (monomials d xs) ≡ choose (d + (length xs + j)) (length xs + j)
tally-monomials d j [] =
    let none : choose (d - 0 + j) j + 0 ≡ choose (d - 0 + j) j = omega arith in
    let top : d - 0 + j ≡ d + (0 + j) = omega arith in
    let same : j ≡ 0 + j = omega arith in
    sum_by-cons (λ k. choose (d - degree k + j) j) [] [] ∙ none ∙ ap₂ choose top same
tally-monomials d j (x ∷ xs) =
    let more : length xs + suc j ≡ suc (length xs) + j = omega arith in
    tally-flat d j x (monomials d xs) (low_monomials d xs) ∙ tally-monomials d (suc j) xs ∙ ap (λ k. choose (d + k) k) more

tally-none : (d : ℕ) (ms : List Monomial) → tally d 0 ms ≡ length ms
tally-none d [] = refl
tally-none d (m ∷ ms) =
    sum_by-cons (λ k. choose (d - degree k + 0) 0) m ms ∙ ap₂ (λ a b. a + b) (choose-none (d - degree m + 0)) (tally-none d ms) ∙ (let e : 1 + length ms ≡ suc (length ms) = omega arith in e)

pub length-monomials : (d : ℕ) (xs : List ℕ) → length (monomials d xs) ≡ choose (d + length xs) (length xs)
length-monomials d xs =
    let none : length xs + 0 ≡ length xs = omega arith in
    sym (tally-none d (monomials d xs)) ∙ tally-monomials d 0 xs ∙ ap (λ k. choose (d + k) k) none

-- ---- growth

more_choices : (m k : ℕ) → choose m k ≤ choose (suc m) k
more_choices m zero = omega (arith, choose-none m, choose-none (suc m))
more_choices m (suc k) = omega (arith, pascal m k)

-- more degrees, and more variables
pub grows_degree : (d k n : ℕ) → choose (d + n) n ≤ choose (d + k + n) n
grows_degree d zero n = let e : choose (d + n) n ≡ choose (d + 0 + n) n = ap (λ i. choose (i + n) n) (let s : d ≡ d + 0 = omega arith in s) in omega (arith, e)
grows_degree d (suc k) n =
    let e : choose (suc (d + k + n)) n ≡ choose (d + suc k + n) n = ap (λ i. choose i n) (let s : suc (d + k + n) ≡ d + suc k + n = omega arith in s) in
    omega (arith, e, more_choices (d + k + n) n, grows_degree d k n)

one_more_variable : (d n : ℕ) → choose (d + n) n ≤ choose (d + suc n) (suc n)
one_more_variable d n =
    let e : choose (suc (d + n)) (suc n) ≡ choose (d + suc n) (suc n) = ap (λ i. choose i (suc n)) (let s : suc (d + n) ≡ d + suc n = omega arith in s) in
    omega (arith, e, pascal (d + n) n)

pub grows_variables : (d n k : ℕ) → choose (d + n) n ≤ choose (d + (n + k)) (n + k)
grows_variables d n zero = let e : choose (d + n) n ≡ choose (d + (n + 0)) (n + 0) = ap (λ i. choose (d + i) i) (let s : n ≡ n + 0 = omega arith in s) in omega (arith, e)
grows_variables d n (suc k) =
    let e : choose (d + suc (n + k)) (suc (n + k)) ≡ choose (d + (n + suc k)) (n + suc k) = ap (λ i. choose (d + i) i) (let s : suc (n + k) ≡ n + suc k = omega arith in s) in
    omega (arith, e, one_more_variable d (n + k), grows_variables d n k)

-- 2^r
abbrev pub doubled : ℕ → ℕ
doubled zero = 1
doubled (suc r) = doubled r + doubled r

at_least_one : (d n : ℕ) → 1 ≤ choose (d + n) n
at_least_one d n =
    let more = grows_degree 0 d n in
    let all : choose (0 + n) n ≡ 1 = ap (λ i. choose i n) (let s : 0 + n ≡ n = omega arith in s) ∙ choose-all n in
    let same : choose (0 + d + n) n ≡ choose (d + n) n = ap (λ i. choose (i + n) n) (let s : 0 + d ≡ d = omega arith in s) in
    omega (arith, more, all, same)

-- with r variables, and degrees up to r, there are the 2^r products of different variables
pub many_products : (r d n : ℕ) → r ≤ d → r ≤ n → doubled r ≤ choose (d + n) n
many_products zero d n a b = at_least_one d n
many_products (suc r) zero n a b = absurd (omega arith)
many_products (suc r) (suc d) zero a b = absurd (omega arith)
many_products (suc r) (suc d) (suc n) a b =
    let once = many_products r d n (omega arith) (omega arith) in
    let whole : choose (suc d + suc n) (suc n) ≡ choose (suc (d + n)) n + choose (suc (d + n)) (suc n) =
    ap (λ i. choose i (suc n)) (let s : suc d + suc n ≡ suc (suc (d + n)) = omega arith in s) ∙ pascal (suc (d + n)) n in
    omega (arith, once, whole, more_choices (d + n) n, pascal (d + n) n)

-- from degree 1 on there are more monomials than variables
pub more_than_variables : (d n : ℕ) → 0 < d → n < choose (d + n) n
more_than_variables zero n positive = absurd (omega arith)
more_than_variables (suc d) zero positive = omega (arith, choose-none (suc d + 0))
more_than_variables (suc d) (suc n) positive =
    let before = more_than_variables (suc d) n positive in
    let one = at_least_one d (suc n) in
    let whole : choose (suc d + suc n) (suc n) ≡ choose (suc d + n) n + choose (d + suc n) (suc n) =
    ap (λ i. choose i (suc n)) (let s : suc d + suc n ≡ suc (suc d + n) = omega arith in s) ∙ pascal (suc d + n) n
    ∙ ap (λ i. choose (suc d + n) n + choose i (suc n)) (let s : suc d + n ≡ d + suc n = omega arith in s) in
    omega (arith, before, one, whole)

pub one_constant : (n : ℕ) → choose (0 + n) n ≡ 1
one_constant n = ap (λ i. choose i n) (let s : 0 + n ≡ n = omega arith in s) ∙ choose-all n

-- one binomial coefficient from the one before
pub next_count : (d k c : ℕ) → c ≡ choose (d + k) k → c * (d + (k + 1)) / (k + 1) ≡ choose (d + (k + 1)) (k + 1)
next_count d k c is =
    let x = choose (suc (d + k)) (suc k) in
    let more : x ≡ choose (d + (k + 1)) (k + 1) = ap₂ choose (let s : suc (d + k) ≡ d + (k + 1) = omega arith in s) (let s : suc k ≡ k + 1 = omega arith in s) in
    let times : c * (d + (k + 1)) ≡ x * suc k + 0 =
    ap (λ i. i * (d + (k + 1))) is ∙ (let e : choose (d + k) k * (d + (k + 1)) ≡ suc (d + k) * choose (d + k) k = omega arith in e) ∙ sym (choose-absorb (d + k) k) ∙ (let e : suc k * x ≡ x * suc k + 0 = omega arith in e) in
    ap₂ (λ a b. a / b) times (let s : k + 1 ≡ suc k = omega arith in s) ∙ div-mul-add x (suc k) 0 (omega arith) ∙ more

pub product_fits : (a b : ℕ) → a ≤ 4096 → b ≤ 8192 → a * b < 2 ^ 64
product_fits a b small few = let more = mul-le-mul_left a few in omega (arith, more)

pub few_generators : (d : ℕ) (xs degrees : List ℕ) → length degrees ≤ rows d xs degrees
few_generators d xs [] = omega arith
few_generators d xs (e ∷ degrees) =
    let one = at_least_one (d - e) (length xs) in
    omega (arith, one, length-monomials (d - e) xs, few_generators d xs degrees, sum_by-cons (λ e. length (monomials (d - e) xs)) e degrees)

-- ---- powers of a monomial

length-with_power : (f : ℕ → ℕ → ℕ) (x e : ℕ) (m : Monomial) → length (with_power f x e m) ≤ suc (length m)
length-with_power f x e [] = omega arith
length-with_power f x e (p ∷ m) = by_case (nat_lt x p.0) (x == p.0) (length-with_power f x e m)
  where
    by_case : (a b : Bool) → length (with_power f x e m) ≤ suc (length m)
        → length (cond a ((x, e) ∷ p ∷ m) (cond b ((x, f e p.1) ∷ m) (p ∷ with_power f x e m))) ≤ suc (suc (length m))
    by_case true b rest = omega arith
    by_case false true rest = omega arith
    by_case false false rest = omega arith

one_power_more : (x e : ℕ) (m : Monomial) → length (mono_mul (power x e) m) ≤ suc (length m)
one_power_more x zero m = omega arith
one_power_more x (suc e) m = length-with_power ◌+◌ x (suc e) m

short_powers : (x k : ℕ) (m : Monomial) (e n : ℕ) → length m ≤ k → AllByRecursion (λ i. length i ≤ suc k) (map (λ i. mono_mul (power x i) m) (range_with_len e n))
short_powers x k m e zero h = tt
short_powers x k m e (suc n) h = (let one = one_power_more x e m in omega (arith, one), short_powers x k m (e + 1) n h)

-- a monomial has at most one power of each variable
pub short_monomials : (d : ℕ) (xs : List ℕ) → AllByRecursion (λ m. length m ≤ length xs) (monomials d xs)
short_monomials d [] = (omega arith, tt)
short_monomials d (x ∷ xs) =
    each_flat (λ m. length m ≤ suc (length xs)) (λ m. length m ≤ length xs) d x (λ m short. short_powers x (length xs) m 0 (suc (d - degree m)) short) (monomials d xs) (short_monomials d xs)

-- ---- lists of products, one more

pub more_powers : (x : ℕ) (m k : Monomial) (old mid new : List Monomial) (n : ℕ) → mid ≡ old ++ map (λ e. mono_mul (power x e) m) (range_with_len 0 n) → k ≡ mono_mul (power x n) m → new ≡ mid ++ k ∷ []
    → new ≡ old ++ map (λ e. mono_mul (power x e) m) (range_with_len 0 (n + 1))
more_powers x m k old mid new n before is now =
    now ∙ ap₂ (λ a b. a ++ b ∷ []) before is
    ∙ append_assoc old (map (λ e. mono_mul (power x e) m) (range_with_len 0 n)) (mono_mul (power x n) m ∷ [])
    ∙ ap (λ ms. old ++ ms) (sym (map-range_with_len_more (λ e. mono_mul (power x e) m) 0 n n (omega arith)))

pub all_powers : (d x : ℕ) (m : Monomial) (old new : List Monomial) (n : ℕ) → n ≡ d - degree m + 1 → new ≡ old ++ map (λ e. mono_mul (power x e) m) (range_with_len 0 n) → new ≡ old ++ with_powers d x m
all_powers d x m old new n last is = is ∙ ap (λ k. old ++ map (λ e. mono_mul (power x e) m) (range_with_len 0 k)) (let e : n ≡ suc (d - degree m) = omega (arith, last) in e)

pub more_products : (d x : ℕ) (ms old new : List Monomial) (i : ℕ) (m : Monomial) → i < length ms → m ≡ get_or ms i [] → old ≡ flat_map (with_powers d x) (take i ms) → new ≡ old ++ with_powers d x m → new ≡ flat_map (with_powers d x) (take (i + 1) ms)
more_products d x ms old new i m inside at before now =
    now ∙ ap₂ (λ a k. a ++ with_powers d x k) before at
    ∙ ap (λ k. flat_map (with_powers d x) (take i ms) ++ k) (sym (append-nil (with_powers d x (get_or ms i []))))
    ∙ sym (flat_map-append (with_powers d x) (take i ms) (get_or ms i [] ∷ [])) ∙ ap (flat_map (with_powers d x)) (sym (take_more ms i [] inside))

-- one more variable in front
pub one_more : (d : ℕ) (xs : List ℕ) (k : ℕ) (old new : List Monomial) (x : ℕ) → k < length xs → x ≡ get_or xs k 0 → old ≡ monomials d (drop (k + 1) xs) → new ≡ flat_map (with_powers d x) old → new ≡ monomials d (drop k xs)
one_more d xs k old new x inside at before now =
    now ∙ ap₂ (λ y ms. flat_map (with_powers d y) ms) at (before ∙ ap (λ j. monomials d (drop j xs)) (let e : k + 1 ≡ suc k = omega arith in e))
    ∙ sym (ap (monomials d) (drop-cons xs k 0 inside))

pub power_some : (x e : ℕ) → e ≢ 0 → (x, e) ∷ [] ≡ power x e
power_some x zero some = absurd (some refl)
power_some x (suc e) some = refl
