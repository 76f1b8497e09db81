-- Rows and columns as lists: which there are, and how many.
use Rattle.std.proofs.Common.{◌≡◌, ◌≢◌, ◌⊎◌, inl, inr, ℕ, zero, suc, ◌+◌, ◌-◌, ◌<◌, ◌≤◌, Bool, true, false, cond, List, [], ◌∷◌, ◌++◌, length, map, take, get_or, All, Contains, refl, sym, ap, ap₂, ◌∙◌, subst, arith, length-append, length-take, append-nil, append_assoc, position, Some}
use Rattle.std.specs.List.{AllByRecursion, IsDistinct, list_any}
use Rattle.std.specs.Set.{is_member}
use Rattle.std.proofs.lemmas.Bool.{cases_eq, false≢true}
use Rattle.std.proofs.lemmas.List.Quantifiers.{position-Some}
use Rattle.std.proofs.lemmas.List.{take_more, get_or_at, get_or_append_left, length-map, length_push}
use Rattle.std.proofs.lemmas.List.Elements.{All-contains, All-from_recursion, All-get_or, All-weaker, Contains-append_left, Contains-append_right, Contains-append_cases, Contains-push}
use Rattle.std.proofs.lemmas.List.Sums.{sum_by-cons}
use Rattle.std.proofs.lemmas.Map.Made.{length-le_from_is_member}
use Rattle.std.proofs.lemmas.Map.Views.{list_any-from_Contains, Contains-from_any}
use Rattle.ffc_mono.specs.EqualityLaws.{same_monomial_equivalence}
use Rattle.ffc_ring.specs.Monomial.{Monomial, IsMonomial, degree, mono_mul, same_monomial}
use Rattle.ffc_ring.specs.Polynomial.{Terms}
use Rattle.ffc_ring.proofs.MonomialLemmas.{degree-mono_mul}
use Rattle.ffc_ring.proofs.PolynomialLemmas.{same_monomial-true, same_monomial-other}
use Rattle.ffc_bounds.specs.Monomials.{monomials, columns, rows}
use Rattle.ffc_macaulay.specs.Matrix.{multiples_from, AddsOfDegree, AreAbove, AreUnknowns, IsUsable}
use Rattle.ffc_macaulay.specs.Identities.{AreGenerators}
use Rattle.ffc_macaulay.proofs.CountLemmas.{each-append}
use Rattle.ffc_macaulay.proofs.MemberLemmas.{contains_first, contains_cases, contains_none, each_weaker, in_product, up_to_at, product_listed}

-- ---- the unknowns

same_exact : (x y : Monomial) → same_monomial x y ≡ true → x ≡ y
same_exact x y same = same_monomial-true x y same

-- a monomial put after the others where it is not there
pub adds_one : (old new : List Monomial) (m : Monomial) (b : Bool) → list_any (same_monomial m) old ≡ b → new ≡ (cond b old (old ++ m ∷ [])) → AddsOfDegree (degree m) (m ∷ []) old new
adds_one old new m true found is =
    let there = Contains-from_any same_exact m old found in
    subst (AddsOfDegree (degree m) (m ∷ []) old) (sym is) (record {
      kept = λ n has. has;
      added = λ n has low. elim (contains_cases m [] n has) as (λ _. Contains old n) [ inl here ↦ subst (Contains old) here there | inr none ↦ absurd (contains_none n none) ];
      only = λ n has. inl has;
    })
adds_one old new m false found is =
    subst (AddsOfDegree (degree m) (m ∷ []) old) (sym is) (record {
      kept = λ n has. Contains-append_left old (m ∷ []) n has;
      added = λ n has low. Contains-append_right old (m ∷ []) n has;
      only = λ n has. elim (Contains-append_cases old (m ∷ []) n has) as (λ _. Contains old n ⊎ (Contains (m ∷ []) n × (degree n ≡ degree m))) [
        | inl before ↦ inl before
        | inr now ↦ inr (now, elim (contains_cases m [] n now) as (λ _. degree n ≡ degree m) [ inl here ↦ ap degree (sym here) | inr none ↦ absurd (contains_none n none) ])
      ];
    })

pub adds_none : (d : ℕ) (old : List Monomial) → AddsOfDegree d [] old old
adds_none d old = record { kept = λ n has. has; added = λ n has low. absurd (contains_none n has); only = λ n has. inl has }

-- one more among those of which some were added
pub adds_more : (d i : ℕ) (ms old mid new : List Monomial) (m : Monomial) → i < length ms → m ≡ get_or ms i [] → degree m ≡ d → AddsOfDegree d (take i ms) old mid → AddsOfDegree (degree m) (m ∷ []) mid new → AddsOfDegree d (take (i + 1) ms) old new
adds_more d i ms old mid new m inside at low before now =
    subst (λ xs. AddsOfDegree d xs old new) (sym (take_more ms i [] inside ∙ ap (λ k. take i ms ++ k ∷ []) (sym at))) (record {
      kept = λ n has. now.kept n (before.kept n has);
      added = λ n has is. elim (Contains-append_cases (take i ms) (m ∷ []) n has) as (λ _. Contains new n) [
        | inl front ↦ now.kept n (before.added n front is)
        | inr last ↦ now.added n last (is ∙ sym low)
      ];
      only = λ n has. elim (now.only n has) as (λ _. Contains old n ⊎ (Contains (take i ms ++ m ∷ []) n × (degree n ≡ d))) [
        | inl was ↦ elim (before.only n was) as (λ _. Contains old n ⊎ (Contains (take i ms ++ m ∷ []) n × (degree n ≡ d))) [
          | inl there ↦ inl there
          | inr front ↦ inr (Contains-append_left (take i ms) (m ∷ []) n front.0, front.1)
        ]
        | inr last ↦ inr (Contains-append_right (take i ms) (m ∷ []) n last.0, last.1 ∙ low)
      ];
    })

pub adds_other : (d i : ℕ) (ms old mid : List Monomial) (m : Monomial) → i < length ms → m ≡ get_or ms i [] → degree m ≢ d → AddsOfDegree d (take i ms) old mid → AddsOfDegree d (take (i + 1) ms) old mid
adds_other d i ms old mid m inside at other before =
    subst (λ xs. AddsOfDegree d xs old mid) (sym (take_more ms i [] inside ∙ ap (λ k. take i ms ++ k ∷ []) (sym at))) (record {
      kept = before.kept;
      added = λ n has is. elim (Contains-append_cases (take i ms) (m ∷ []) n has) as (λ _. Contains mid n) [
        | inl front ↦ before.added n front is
        | inr last ↦ elim (contains_cases m [] n last) as (λ _. Contains mid n) [ inl here ↦ absurd (other (ap degree here ∙ is)) | inr none ↦ absurd (contains_none n none) ]
      ];
      only = λ n has. elim (before.only n has) as (λ _. Contains old n ⊎ (Contains (take i ms ++ m ∷ []) n × (degree n ≡ d))) [
        | inl there ↦ inl there
        | inr front ↦ inr (Contains-append_left (take i ms) (m ∷ []) n front.0, front.1)
      ];
    })

-- at first there are none above the degree
pub none_above : (d : ℕ) (ms : List Monomial) → All (λ m. degree m ≤ d) ms → AreAbove d ms []
none_above d ms low = record {
  only = λ m has. absurd (contains_none m has);
  all = λ m has high. absurd (let small : degree m ≤ d = All-contains (λ m. degree m ≤ d) ms m low has in omega arith);
}

pub above_more : (d e : ℕ) (ms old new : List Monomial) → d ≡ suc e → AreAbove d ms old → AddsOfDegree d ms old new → AreAbove e ms new
above_more d e ms old new next before now = record {
  only = λ m has. elim (now.only m has) as (λ _. Contains ms m × (e < degree m)) [
    | inl was ↦ (let known = before.only m was in (known.0, omega (arith, known.1)))
    | inr is ↦ (is.0, omega (arith, is.1))
  ];
  all = λ m has high. elim (cases_eq (degree m) d) as (λ _. Contains new m) [
    | inl same ↦ now.added m has same
    | inr other ↦ now.kept m (before.all m has (omega (arith, other)))
  ];
}

-- there are fewer unknowns than monomials
pub few_unknowns : (d : ℕ) (xs : List ℕ) (unknowns : List Monomial) → AreUnknowns 0 (monomials d xs) unknowns → length unknowns + 1 ≤ columns d xs
unfolding IsDistinct
few_unknowns d xs unknowns are =
    let few = length-le_from_is_member same_monomial_equivalence ([] ∷ unknowns) (monomials d xs) apart members in
    omega (arith, few)
  where
    other : (ks : List Monomial) → ((m : Monomial) → Contains ks m → 0 < degree m) → AllByRecursion (λ m. same_monomial [] m ≡ false) ks
    other [] high = tt
    other (k ∷ ks) high = (
      same_monomial-other [] k (λ e. let some = high k (contains_first k ks) in omega (arith, some, ap degree e)),
      other ks (λ m has. high m (Contains-append_right (k ∷ []) ks m has)),
    )

    apart : IsDistinct same_monomial ([] ∷ unknowns)
    apart = (other unknowns (λ m has. (are.above.only m has).1), are.once)

    members : (q : Monomial) → is_member same_monomial ([] ∷ unknowns) q ≡ true → is_member same_monomial (monomials d xs) q ≡ true
    members q is =
        elim (contains_cases [] unknowns q (Contains-from_any same_exact q ([] ∷ unknowns) is)) as (λ _. is_member same_monomial (monomials d xs) q ≡ true) [
          | inl one ↦ list_any-from_Contains same_monomial_equivalence q (monomials d xs) (subst (Contains (monomials d xs)) one (one_listed xs))
          | inr other ↦ list_any-from_Contains same_monomial_equivalence q (monomials d xs) (are.above.only q other).0
        ]
      where
        one_listed : (ys : List ℕ) → Contains (monomials d ys) []
        one_listed [] = contains_first [] []
        one_listed (y ∷ ys) = in_product d y (monomials d ys) [] 0 (one_listed ys) (omega arith)

-- ---- places

pub place_found : (unknowns : List Monomial) (m : Monomial) (k : ℕ) → position (same_monomial m) unknowns ≡ Some k → get_or (unknowns ++ [] ∷ []) k [] ≡ m
place_found unknowns m k found =
    let known = position-Some (same_monomial m) unknowns k [] found in
    get_or_append_left unknowns ([] ∷ []) [] k known.0 ∙ sym (same_monomial-true m (get_or unknowns k []) known.1)

pub place_missed : (unknowns : List Monomial) (m : Monomial) → list_any (same_monomial m) unknowns ≡ false → Contains (unknowns ++ [] ∷ []) m → get_or (unknowns ++ [] ∷ []) (length unknowns) [] ≡ m
place_missed unknowns m missed has =
    get_or_at unknowns [] [] [] (length unknowns) refl
    ∙ elim (Contains-append_cases unknowns ([] ∷ []) m has) as (λ _. [] ≡ m) [
      | inl there ↦ absurd (false≢true (sym missed ∙ list_any-from_Contains same_monomial_equivalence m unknowns there))
      | inr last ↦ elim (contains_cases [] [] m last) as (λ _. [] ≡ m) [ inl one ↦ one | inr none ↦ absurd (contains_none m none) ]
    ]

-- ---- the rows

pub multiples-push : (d : ℕ) (xs : List ℕ) (k : ℕ) (degrees : List ℕ) (e i : ℕ) → i ≡ k + length degrees → multiples_from d xs k (degrees ++ e ∷ []) ≡ multiples_from d xs k degrees ++ map (λ u. (i, u)) (monomials (d - e) xs)
multiples-push d xs k [] e i at =
    append-nil (map (λ u. (k, u)) (monomials (d - e) xs)) ∙ ap (λ j. map (λ u. (j, u)) (monomials (d - e) xs)) (let s : k ≡ i = omega (arith, at) in s)
multiples-push d xs k (f ∷ degrees) e i at =
    ap (λ ms. map (λ u. (k, u)) (monomials (d - f) xs) ++ ms) (multiples-push d xs (suc k) degrees e i (omega (arith, at)))
    ∙ sym (append_assoc (map (λ u. (k, u)) (monomials (d - f) xs)) (multiples_from d xs (suc k) degrees) (map (λ u. (i, u)) (monomials (d - e) xs)))

pub multiples_more : (d : ℕ) (xs degrees : List ℕ) (i : ℕ) → i < length degrees → multiples_from d xs 0 (take (i + 1) degrees) ≡ multiples_from d xs 0 (take i degrees) ++ map (λ u. (i, u)) (monomials (d - get_or degrees i 0) xs)
multiples_more d xs degrees i inside =
    ap (multiples_from d xs 0) (take_more degrees i 0 inside)
    ∙ multiples-push d xs 0 (take i degrees) (get_or degrees i 0) i (let long = length-take i degrees in omega (arith, long))

pub length-multiples : (d : ℕ) (xs : List ℕ) (k : ℕ) (degrees : List ℕ) → length (multiples_from d xs k degrees) ≡ rows d xs degrees
length-multiples d xs k [] = refl
length-multiples d xs k (e ∷ degrees) =
    let one = length-map (monomials (d - e) xs) (λ (u : Monomial). (k, u)) in
    let rest = length-multiples d xs (suc k) degrees in
    length-append (map (λ (u : Monomial). (k, u)) (monomials (d - e) xs)) (multiples_from d xs (suc k) degrees)
    ∙ ap₂ (λ a b. a + b) one rest ∙ sym (sum_by-cons (λ e. columns (d - e) xs) e degrees)

-- a generator that is there, and a monomial of the degree that is left
pub record IsLabel (d : ℕ) (xs degrees : List ℕ) (m : ℕ × Monomial) : Type 0 where
  pub there : m.0 < length degrees
  pub monomial : Contains (monomials (d - get_or degrees m.0 0) xs) m.1

labels_of : (d : ℕ) (xs all : List ℕ) (k e : ℕ) (us ms : List Monomial) → k < length all → get_or all k 0 ≡ e → ((u : Monomial) → Contains us u → Contains (monomials (d - e) xs) u) → AllByRecursion (IsLabel d xs all) (map (λ u. (k, u)) us)
labels_of d xs all k e [] ms inside at has = tt
labels_of d xs all k e (u ∷ us) ms inside at has = (
  record { there = inside; monomial = subst (λ j. Contains (monomials (d - j) xs) u) (sym at) (has u (contains_first u us)) },
  labels_of d xs all k e us ms inside at (λ v later. has v (Contains-append_right (u ∷ []) us v later)),
)

labels_from : (d : ℕ) (xs front degrees : List ℕ) (k : ℕ) → k ≡ length front → AllByRecursion (IsLabel d xs (front ++ degrees)) (multiples_from d xs k degrees)
labels_from d xs front [] k at = tt
labels_from d xs front (e ∷ degrees) k at =
    each-append (IsLabel d xs (front ++ e ∷ degrees)) (map (λ u. (k, u)) (monomials (d - e) xs)) (multiples_from d xs (suc k) degrees)
    (labels_of d xs (front ++ e ∷ degrees) k e (monomials (d - e) xs) [] (let long = length-append front (e ∷ degrees) in omega (arith, long)) (get_or_at front e degrees 0 k (sym at)) (λ u has. has))
    (subst (λ all. AllByRecursion (IsLabel d xs all) (multiples_from d xs (suc k) degrees)) (append_assoc front (e ∷ []) degrees)
    (labels_from d xs (front ++ e ∷ []) degrees (suc k) (let long = length_push front e in omega (arith, long))))

pub are_labels : (d : ℕ) (xs degrees : List ℕ) → AllByRecursion (IsLabel d xs degrees) (multiples_from d xs 0 degrees)
are_labels d xs degrees = labels_from d xs [] degrees 0 refl

paired_listed : (k : ℕ) (us : List Monomial) (u : Monomial) → Contains us u → Contains {X = ℕ × Monomial} (map (λ v. (k, v)) us) (k, u)
paired_listed k [] u has = absurd (contains_none u has)
paired_listed k (v ∷ us) u has = elim (contains_cases v us u has) as (λ _. Contains {X = ℕ × Monomial} (map (λ v. (k, v)) (v ∷ us)) (k, u)) [
  | inl here ↦ subst (λ w. Contains {X = ℕ × Monomial} (map (λ v. (k, v)) (v ∷ us)) (k, w)) here (contains_first (k, v) (map (λ v. (k, v)) us))
  | inr later ↦ Contains-append_right ((k, v) ∷ []) (map (λ v. (k, v)) us) (k, u) (paired_listed k us u later)
]

-- each of them is a row
pub label_listed : (d : ℕ) (xs : List ℕ) (k i : ℕ) (degrees : List ℕ) (u : Monomial) → i < length degrees → Contains (monomials (d - get_or degrees i 0) xs) u → Contains {X = ℕ × Monomial} (multiples_from d xs k degrees) (k + i, u)
label_listed d xs k i [] u inside has = absurd (omega arith)
label_listed d xs k zero (e ∷ degrees) u inside has =
    Contains-append_left (map (λ u. (k, u)) (monomials (d - e) xs)) (multiples_from d xs (suc k) degrees) (k + 0, u)
    (subst (λ j. Contains {X = ℕ × Monomial} (map (λ u. (k, u)) (monomials (d - e) xs)) (j, u)) (let s : k ≡ k + 0 = omega arith in s) (paired_listed k (monomials (d - e) xs) u has))
label_listed d xs k (suc i) (e ∷ degrees) u inside has =
    Contains-append_right (map (λ u. (k, u)) (monomials (d - e) xs)) (multiples_from d xs (suc k) degrees) (k + suc i, u)
    (subst (λ j. Contains {X = ℕ × Monomial} (multiples_from d xs (suc k) degrees) (j, u)) (let s : suc k + i ≡ k + suc i = omega arith in s) (label_listed d xs (suc k) i degrees u (omega arith) has))

-- ---- rows have columns

no_degree : (m : Monomial) → IsMonomial m → degree m ≡ 0 → m ≡ []
no_degree [] is none = refl
no_degree (p ∷ m) is none = absurd (omega (arith, is.1, none))

-- each monomial has a column
pub has_column : (d : ℕ) (xs : List ℕ) (unknowns : List Monomial) (m : Monomial) → AreAbove 0 (monomials d xs) unknowns → Contains (monomials d xs) m → Contains (unknowns ++ [] ∷ []) m
has_column d xs unknowns m are has = elim (cases_eq (degree m) 0) as (λ _. Contains (unknowns ++ [] ∷ []) m) [
  | inl none ↦ subst (Contains (unknowns ++ [] ∷ [])) (sym (no_degree m (up_to_at d xs m has).monomial none)) (Contains-push unknowns [])
  | inr some ↦ Contains-append_left unknowns ([] ∷ []) m (are.all m has (omega (arith, some)))
]

module _ (d : ℕ) (xs degrees : List ℕ) (generators : List Terms) (are : AreGenerators d xs degrees generators) where
  -- a generator's monomial times the multiplier
  pub product_there : (m : ℕ × Monomial) → IsLabel d xs degrees m → (t : Monomial) → Contains (monomials (get_or degrees m.0 0) xs) t → Contains (monomials d xs) (mono_mul m.1 t)
  product_there m label t has =
      let e = get_or degrees m.0 0 in
      let low : e ≤ d = All-get_or (λ e. e ≤ d) degrees m.0 0 label.there are.low in
      product_listed d (d - e) e xs m.1 t (omega arith) label.monomial has

  usable : (unknowns : List Monomial) → d ≤ 1024 → AreAbove 0 (monomials d xs) unknowns → (m : ℕ × Monomial) → IsLabel d xs degrees m → IsUsable (unknowns ++ [] ∷ []) generators m
  usable unknowns limit above m label =
      let there : m.0 < length generators = omega (arith, label.there, are.long) in
      let terms : Terms = get_or generators m.0 [] in
      let within = are.within m.0 there in
      record {
        there = there;
        multiplier = record {
          low = All-weaker (λ t. Contains (monomials (get_or degrees m.0 0) xs) t.1) (λ t. degree m.1 + degree t.1 ≤ 1024) (λ t has.
              (let low = (up_to_at d xs (mono_mul m.1 t.1) (product_there m label t.1 has)).low in
              omega (arith, low, degree-mono_mul m.1 t.1))) terms within;
          among = All-weaker (λ t. Contains (monomials (get_or degrees m.0 0) xs) t.1) (λ t. Contains (unknowns ++ [] ∷ []) (mono_mul m.1 t.1)) (λ t has.
              has_column d xs unknowns (mono_mul m.1 t.1) above (product_there m label t.1 has)) terms within;
        };
      }

  pub all_usable : (unknowns : List Monomial) → d ≤ 1024 → AreAbove 0 (monomials d xs) unknowns → All (IsUsable (unknowns ++ [] ∷ []) generators) (multiples_from d xs 0 degrees)
  all_usable unknowns limit above =
      All-from_recursion (IsUsable (unknowns ++ [] ∷ []) generators) (multiples_from d xs 0 degrees)
      (each_weaker (IsLabel d xs degrees) (IsUsable (unknowns ++ [] ∷ []) generators) (usable unknowns limit above) (multiples_from d xs 0 degrees) (are_labels d xs degrees))
