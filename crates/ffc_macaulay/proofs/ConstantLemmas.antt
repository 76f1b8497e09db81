-- The columns of variables: each has one, and there are no more in which rows lead than rows.
use Rattle.std.proofs.Common.{◌≡◌, ℕ, zero, suc, ◌+◌, ◌<◌, ◌≤◌, true, false, List, [], ◌∷◌, ◌++◌, map, length, take, get_or, All, Contains, Some, inl, inr, refl, sym, ap, ◌∙◌, subst, arith, ne_eqb, eqb, eqb-true, length-take}
use Rattle.std.specs.Prelude.{slice_get, slice_index}
use Rattle.std.specs.List.{AllByRecursion, AllZip, IsDistinct}
use Rattle.std.specs.List.Sorted.{IsStrictlyIncreasing}
use Rattle.std.specs.Set.{is_member}
use Rattle.std.proofs.lemmas.Bool.{cases_eq}
use Rattle.std.proofs.lemmas.Cmp.{nat_eq_equiv}
use Rattle.std.proofs.lemmas.List.{length-map, get_or-take}
use Rattle.ffc_macaulay.proofs.ZipLemmas.{zip_left_of}
use Rattle.std.proofs.lemmas.List.Elements.{All-take, All-from_recursion, Contains-append_right}
use Rattle.std.proofs.lemmas.Map.Made.{length-le_from_is_member}
use Rattle.std.proofs.lemmas.Map.Views.{list_any-from_Contains, Contains-from_any}
use Rattle.std.proofs.lemmas.Option.{same_Some}
use Rattle.ffc_echelon.specs.Forms.{Kept, leading_column}
use Rattle.ffc_echelon.specs.Vectors.{Coordinates}
use Rattle.ffc_ring.specs.Monomial.{Monomial}
use Rattle.ffc_ring.specs.Counting.{IsAmong}
use Rattle.ffc_ring.proofs.MonomialLemmas.{exponent-there}
use Rattle.ffc_bounds.specs.Monomials.{monomials}
use Rattle.ffc_macaulay.specs.Matrix.{AreUnknowns}
use Rattle.ffc_macaulay.specs.MonomialLaws.{IsUpTo}
use Rattle.ffc_macaulay.specs.Solving.{IsColumnOf, IsLed}
use Rattle.ffc_macaulay.proofs.ListLemmas.{has_column}
use Rattle.ffc_macaulay.proofs.MemberLemmas.{Ascends, ascends, are_all, contains_first}

-- ---- each variable has a column

one_variable : (d x : ℕ) (xs : List ℕ) → 1 ≤ d → IsAmong xs x → IsUpTo d xs ((x, 1) ∷ [])
one_variable d x xs least among = record {
  monomial = (omega arith, omega arith, tt);
  variables = λ y some. elim (cases_eq y x) as (λ _. IsAmong xs y) [
    | inl same ↦ subst (IsAmong xs) (sym same) among
    | inr other ↦ absurd (some (exponent-there (x, 1) [] y other))
  ];
  low = omega (arith, least);
}

listed_each : (all xs : List ℕ) (d : ℕ) (unknowns : List Monomial) → IsStrictlyIncreasing all → 1 ≤ d → AreUnknowns 0 (monomials d all) unknowns → ((x : ℕ) → IsAmong xs x → IsAmong all x)
    → AllByRecursion (λ x. Contains (unknowns ++ [] ∷ []) ((x, 1) ∷ [])) xs
listed_each all [] d unknowns up least are among = tt
listed_each all (x ∷ xs) d unknowns up least are among = (
  has_column d all unknowns ((x, 1) ∷ []) are.above (are_all d all up ((x, 1) ∷ []) (one_variable d x all least (among x (inl refl)))),
  listed_each all xs d unknowns up least are (λ y has. among y (inr has)),
)

pub variables_listed : (d n : ℕ) (xs : List ℕ) (unknowns : List Monomial) → IsStrictlyIncreasing xs → 1 ≤ d → AreUnknowns 0 (monomials d xs) unknowns → All (λ x. Contains (unknowns ++ [] ∷ []) ((x, 1) ∷ [])) (take n xs)
variables_listed d n xs unknowns up least are =
    All-take (λ x. Contains (unknowns ++ [] ∷ []) ((x, 1) ∷ [])) n xs
    (All-from_recursion (λ x. Contains (unknowns ++ [] ∷ []) ((x, 1) ∷ [])) xs (listed_each xs xs d unknowns up least are (λ x among. among)))

-- the first of increasing numbers increase
pub increasing_take : (n : ℕ) (xs : List ℕ) → IsStrictlyIncreasing xs → IsStrictlyIncreasing (take n xs)
increasing_take n xs up k inside =
    (let short = length-take n xs in
    let within : k + 1 < length xs = omega (arith, inside, short) in
    let one : slice_index (take n xs) k ≡ slice_index xs k = get_or-take n xs k 0 (omega (arith, inside, short)) in
    let two : slice_index (take n xs) (k + 1) ≡ slice_index xs (k + 1) = get_or-take n xs (k + 1) 0 (omega (arith, inside, short)) in
    let less = up k within in
    omega (arith, one, two, less))

-- ---- rows that lead in different columns

abbrev first_column : Coordinates → ℕ
first_column [] = 0
first_column (e ∷ v) = e.0

first_is : (v : Coordinates) (c : ℕ) → leading_column v ≡ Some c → first_column v ≡ c
first_is [] c leads = cc
first_is (e ∷ v) c leads = same_Some e.0 c leads

abbrev leads_of : List Kept → List ℕ
leads_of kept = map (λ r. first_column r.coordinates) kept

led_listed : (kept : List Kept) (c j : ℕ) (r : Kept) → slice_get kept j ≡ Some r → leading_column r.coordinates ≡ Some c → Contains (leads_of kept) c
led_listed [] c j r at leads = cc
led_listed (q ∷ kept) c zero r at leads =
    subst (Contains (leads_of (q ∷ kept))) (ap (λ (u : Kept). first_column u.coordinates) (same_Some q r at) ∙ first_is r.coordinates c leads) (contains_first (first_column q.coordinates) (leads_of kept))
led_listed (q ∷ kept) c (suc j) r at leads = Contains-append_right (first_column q.coordinates ∷ []) (leads_of kept) c (led_listed kept c j r at leads)

-- the columns of different variables are different
same_variable : (unknowns : List Monomial) (x y c e : ℕ) → IsColumnOf unknowns x c → IsColumnOf unknowns y e → c ≡ e → x ≡ y
same_variable unknowns x y c e one two same = ap first_column (sym one.at ∙ ap (λ k. get_or unknowns k []) same ∙ two.at)

other_columns : (unknowns : List Monomial) (kept : List Kept) (x c low : ℕ) (xs cs : List ℕ) → IsColumnOf unknowns x c → x < low → Ascends low xs → AllZip (IsLed unknowns kept) xs cs → AllByRecursion (λ e. eqb c e ≡ false) cs
other_columns unknowns kept x c low [] [] column less up led = tt
other_columns unknowns kept x c low [] (e ∷ cs) column less up led = absurd led
other_columns unknowns kept x c low (y ∷ xs) [] column less up led = absurd led
other_columns unknowns kept x c low (y ∷ xs) (e ∷ cs) column less up led = (
  ne_eqb c e (λ same. (let variables = same_variable unknowns x y c e column led.0.column same in let above = up.0 in omega (arith, variables, above, less))),
  other_columns unknowns kept x c (suc y) xs cs column (let above = up.0 in omega (arith, above, less)) up.1 led.1,
)

different_columns : (unknowns : List Monomial) (kept : List Kept) (low : ℕ) (xs cs : List ℕ) → Ascends low xs → AllZip (IsLed unknowns kept) xs cs → IsDistinct eqb cs
unfolding IsDistinct
different_columns unknowns kept low [] [] up led = tt
different_columns unknowns kept low [] (c ∷ cs) up led = absurd led
different_columns unknowns kept low (x ∷ xs) [] up led = absurd led
different_columns unknowns kept low (x ∷ xs) (c ∷ cs) up led = (
  other_columns unknowns kept x c (suc x) xs cs led.0.column (omega arith) up.1 led.1,
  different_columns unknowns kept (suc x) xs cs up.1 led.1,
)

led_members : (unknowns : List Monomial) (kept : List Kept) (xs cs : List ℕ) → AllZip (IsLed unknowns kept) xs cs → (q : ℕ) → Contains cs q → Contains (leads_of kept) q
led_members unknowns kept xs cs led q has =
    let found = zip_left_of (IsLed unknowns kept) xs cs q led has in
    led_listed kept q found.2.row.0 found.2.row.1 found.2.row.2 found.2.row.3

eqb_exact : (x y : ℕ) → eqb x y ≡ true → x ≡ y
eqb_exact x y is = eqb-true x y is

-- there are no more variables in whose columns rows lead than rows
pub few_led : (unknowns : List Monomial) (kept : List Kept) (xs cs : List ℕ) → IsStrictlyIncreasing xs → AllZip (IsLed unknowns kept) xs cs → length cs ≤ length kept
few_led unknowns kept xs cs up led =
    let few = length-le_from_is_member nat_eq_equiv cs (leads_of kept) (different_columns unknowns kept 0 xs cs (ascends xs up) led) members in
    omega (arith, few, length-map kept (λ (r : Kept). first_column r.coordinates))
  where
    members : (q : ℕ) → is_member eqb cs q ≡ true → is_member eqb (leads_of kept) q ≡ true
    members q is = list_any-from_Contains nat_eq_equiv q (leads_of kept) (led_members unknowns kept xs cs led q (Contains-from_any eqb_exact q cs is))
