-- Numbers of monomials, from the greatest monomial to the least.
use Rattle.std.proofs.Common.{◌≡◌, ◌≢◌, ◌⊎◌, inl, inr, ℕ, zero, suc, ◌+◌, ◌<◌, ◌≤◌, Bool, true, false, cond, List, [], ◌∷◌, ◌++◌, length, take, drop, get_or, get_or-take, get_or-drop, All, Contains, Some, position, insert, refl, sym, ap, ap₂, ◌∙◌, subst, arith, length-append, length-take, length-drop, take-append-drop}
use Rattle.std.specs.List.{list_any}
use Rattle.std.specs.declared.cmp.Ordering.{Ordering}
use Rattle.std.specs.declared.cmp.Ordering.TheVariants.{Less, Equal, Greater}
use Rattle.std.proofs.lemmas.Bool.{cases_eq, false≢true}
use Rattle.std.proofs.lemmas.List.{get_or_at, get_or_append_left, get_or_default}
use Rattle.std.proofs.lemmas.List.Quantifiers.{position-Some}
use Rattle.std.proofs.lemmas.List.Elements.{All-nil, All-cons, All-head, All-tail, All-append, All-take, All-drop, All-weaker, All-get_or, All-from_get_or, Contains-get_or, Contains-append_left, Contains-append_right, Contains-append_cases}
use Rattle.std.proofs.lemmas.Map.Views.{list_any-from_Contains, Contains-from_any}
use Rattle.ffc_ring.specs.Monomial.{Monomial, same_monomial}
use Rattle.ffc_ring.proofs.PolynomialLemmas.{same_monomial-true}
use Rattle.ffc_mono.specs.EqualityLaws.{same_monomial_equivalence}
use Rattle.ffc_mono.specs.MonomialOrder.{IsMonomialOrder}
use Rattle.ffc_mono.proofs.LeadingLemmas.{turned, turned_back, greater_trans, not_itself}
use Rattle.ffc_dense.specs.Columns.{IsDescending, AreColumns, IsNew, IsPlaceFor, AreApart}

-- ---- numbers

pub number_found : (ms : List Monomial) (m : Monomial) (k : ℕ) → position (same_monomial m) ms ≡ Some k → (k < length ms) × (get_or ms k [] ≡ m)
number_found ms m k found =
    let known = position-Some (same_monomial m) ms k [] found in (known.0, sym (same_monomial-true m (get_or ms k []) known.1))

pub number_missed : (ms : List Monomial) (m : Monomial) → list_any (same_monomial m) ms ≡ false → IsNew ms m
number_missed ms m none n inside is =
    false≢true (sym none ∙ list_any-from_Contains same_monomial_equivalence m ms (subst (Contains ms) is (Contains-get_or ms n [] inside)))

-- ---- places

All-both : (P Q : ℕ → Type 0) (xs : List ℕ) → All P xs → All Q xs → All (λ x. P x × Q x) xs
All-both P Q xs h g = All-from_get_or (λ x. P x × Q x) xs 0 (λ i l. (All-get_or P xs i 0 l h, All-get_or Q xs i 0 l g))

module _ (cmp : Monomial → Monomial → Ordering) (ms : List Monomial) where
  abbrev pub Above : ℕ → ℕ → Type 0
  Above i j = cmp (get_or ms i []) (get_or ms j []) ≡ Greater

  pub descending_at : (ns : List ℕ) (i j : ℕ) → IsDescending cmp ms ns → i < j → j < length ns → Above (get_or ns i 0) (get_or ns j 0)
  descending_at [] i j d l h = absurd (omega arith)
  descending_at (n ∷ ns) zero zero d l h = absurd (omega arith)
  descending_at (n ∷ ns) zero (suc j) d l h = All-get_or (λ k. Above n k) ns j 0 (omega arith) d.0
  descending_at (n ∷ ns) (suc i) zero d l h = absurd (omega arith)
  descending_at (n ∷ ns) (suc i) (suc j) d l h = descending_at ns i j d.1 (omega arith) (omega arith)

  descending-take : (i : ℕ) (ns : List ℕ) → IsDescending cmp ms ns → IsDescending cmp ms (take i ns)
  descending-take zero ns d = tt
  descending-take (suc i) [] d = tt
  descending-take (suc i) (n ∷ ns) d = (All-take (λ k. Above n k) i ns d.0, descending-take i ns d.1)

  descending-drop : (i : ℕ) (ns : List ℕ) → IsDescending cmp ms ns → IsDescending cmp ms (drop i ns)
  descending-drop zero ns d = d
  descending-drop (suc i) [] d = tt
  descending-drop (suc i) (n ∷ ns) d = descending-drop i ns d.1

  descending-more : (more : List Monomial) (ns : List ℕ) → All (λ n. n < length ms) ns → IsDescending cmp ms ns → IsDescending cmp (ms ++ more) ns
  descending-more more [] w d = tt
  descending-more more (n ∷ ns) w d =
      let first : get_or (ms ++ more) n [] ≡ get_or ms n [] = get_or_append_left ms more [] n (All-head (λ n. n < length ms) n ns w) in (
        All-weaker (λ k. Above n k × (k < length ms)) (λ k. cmp (get_or (ms ++ more) n []) (get_or (ms ++ more) k []) ≡ Greater)
            (λ k h. ap₂ cmp first (get_or_append_left ms more [] k h.1) ∙ h.0)
            ns (All-both (λ k. Above n k) (λ k. k < length ms) ns d.0 (All-tail (λ n. n < length ms) n ns w)),
        descending-more more ns (All-tail (λ n. n < length ms) n ns w) d.1,
      )

  descending-joined : (n : ℕ) (xs ys : List ℕ) → IsDescending cmp ms xs → All (λ k. Above k n) xs → All (λ k. All (λ j. Above k j) ys) xs → All (λ k. Above n k) ys → IsDescending cmp ms ys → IsDescending cmp ms (xs ++ n ∷ ys)
  descending-joined n [] ys d above across below e = (below, e)
  descending-joined n (x ∷ xs) ys d above across below e = (
    All-append (λ k. Above x k) xs (n ∷ ys) d.0 (All-cons (λ k. Above x k) n ys (All-head (λ k. Above k n) x xs above) (All-head (λ k. All (λ j. Above k j) ys) x xs across)),
    descending-joined n xs ys d.1 (All-tail (λ k. Above k n) x xs above) (All-tail (λ k. All (λ j. Above k j) ys) x xs across) below e,
  )

module _ (cmp : Monomial → Monomial → Ordering) (laws : IsMonomialOrder cmp) where
  not_greater : (a b : Monomial) (o : Ordering) → cmp a b ≡ o → o ≢ Greater → a ≢ b → cmp b a ≡ Greater
  not_greater a b Less e ng ne = turned cmp laws a b e
  not_greater a b Equal e ng ne = absurd (ne (laws.exact a b e))
  not_greater a b Greater e ng ne = absurd (ng refl)

  pub apart : (ms : List Monomial) (ns : List ℕ) → IsDescending cmp ms ns → AreApart ns
  apart ms [] d = tt
  apart ms (n ∷ ns) d = (
    All-weaker (λ k. Above cmp ms n k) (λ k. k ≢ n) (λ k h e. not_itself cmp laws (get_or ms n []) (get_or ms k []) h (ap (λ i. get_or ms i []) (sym e))) ns d.0,
    apart ms ns d.1,
  )

  pub above_more : (ms : List Monomial) (ns : List ℕ) (m : Monomial) (i : ℕ) → IsDescending cmp ms ns → i < length ns → cmp (get_or ms (get_or ns i 0) []) m ≡ Greater → All (λ k. cmp (get_or ms k []) m ≡ Greater) (take (i + 1) ns)
  above_more ms ns m i d inside here =
      All-from_get_or (λ k. cmp (get_or ms k []) m ≡ Greater) (take (i + 1) ns) 0
      (λ j h.
      let low : j < i + 1 = omega (arith, h, length-take (i + 1) ns) in
      let is : get_or (take (i + 1) ns) j 0 ≡ get_or ns j 0 = get_or-take (i + 1) ns j 0 low in
      ap (λ k. cmp (get_or ms k []) m) is
      ∙ elim (cases_eq j i) as (λ _. cmp (get_or ms (get_or ns j 0) []) m ≡ Greater) [
        | inl same ↦ ap (λ k. cmp (get_or ms (get_or ns k 0) []) m) same ∙ here
        | inr other ↦ greater_trans cmp laws (get_or ms (get_or ns j 0) []) (get_or ms (get_or ns i 0) []) m (descending_at cmp ms ns j i d (omega arith) inside) here
      ])

  pub below_more : (ms : List Monomial) (ns : List ℕ) (m : Monomial) (i : ℕ) → IsDescending cmp ms ns → i < length ns → cmp (get_or ms (get_or ns i 0) []) m ≢ Greater → get_or ms (get_or ns i 0) [] ≢ m → All (λ k. cmp m (get_or ms k []) ≡ Greater) (drop i ns)
  below_more ms ns m i d inside not new =
      let here : cmp m (get_or ms (get_or ns i 0) []) ≡ Greater = not_greater (get_or ms (get_or ns i 0) []) m (cmp (get_or ms (get_or ns i 0) []) m) refl not new in
      All-from_get_or (λ k. cmp m (get_or ms k []) ≡ Greater) (drop i ns) 0
      (λ j h.
      let is : get_or (drop i ns) j 0 ≡ get_or ns (i + j) 0 = get_or-drop i ns j 0 in
      ap (λ k. cmp m (get_or ms k [])) is
      ∙ elim (cases_eq j 0) as (λ _. cmp m (get_or ms (get_or ns (i + j) 0) []) ≡ Greater) [
        | inl same ↦ ap (λ k. cmp m (get_or ms (get_or ns k 0) [])) (let e : i + j ≡ i = omega (arith, same) in e) ∙ here
        | inr other ↦
            greater_trans cmp laws m (get_or ms (get_or ns i 0) []) (get_or ms (get_or ns (i + j) 0) []) here
            (descending_at cmp ms ns i (i + j) d (omega arith) (omega (arith, h, length-drop i ns)))
      ])

  -- a new monomial, whose number is put in its place
  pub inserted : (ms : List Monomial) (ns : List ℕ) (m : Monomial) (place : ℕ) → AreColumns cmp ms ns → IsPlaceFor cmp ms ns m place → AreColumns cmp (ms ++ m ∷ []) (insert ns place (length ms))
  inserted ms ns m place are at =
      let both = ms ++ m ∷ [] in
      let n = length ms in
      let xs = take place ns in
      let ys = drop place ns in
      let size : length both ≡ n + 1 = length-append ms (m ∷ []) in
      let new : get_or both n [] ≡ m = get_or_at ms m [] [] n refl in
      let old = λ (k : ℕ) (h : k < n). get_or_append_left ms (m ∷ []) [] k h in
      let within_xs : All (λ k. k < n) xs = All-take (λ k. k < n) place ns are.within in
      let within_ys : All (λ k. k < n) ys = All-drop (λ k. k < n) place ns are.within in
      let longer = descending-more cmp ms (m ∷ []) ns are.within are.descending in
      let above : All (λ k. Above cmp both k n) xs =
      All-weaker (λ k. (cmp (get_or ms k []) m ≡ Greater) × (k < n)) (λ k. Above cmp both k n) (λ k h. ap₂ cmp (old k h.1) new ∙ h.0) xs
      (All-both (λ k. cmp (get_or ms k []) m ≡ Greater) (λ k. k < n) xs at.above within_xs) in
      let below : All (λ k. Above cmp both n k) ys =
      All-weaker (λ k. (cmp m (get_or ms k []) ≡ Greater) × (k < n)) (λ k. Above cmp both n k) (λ k h. ap₂ cmp new (old k h.1) ∙ h.0) ys
      (All-both (λ k. cmp m (get_or ms k []) ≡ Greater) (λ k. k < n) ys at.below within_ys) in
      let across : All (λ k. All (λ j. Above cmp both k j) ys) xs =
      All-weaker (λ k. Above cmp both k n) (λ k. All (λ j. Above cmp both k j) ys)
      (λ k h. All-weaker (λ j. Above cmp both n j) (λ j. Above cmp both k j) (λ j l. greater_trans cmp laws (get_or both k []) (get_or both n []) (get_or both j []) h l) ys below)
      xs above in
      record {
        long = omega (arith, size, are.long, at.inside, length-append xs (n ∷ ys), length-take place ns, length-drop place ns);
        within = All-weaker (λ k. k < n + 1) (λ k. k < length both) (λ k h. omega (arith, h, size)) (insert ns place n)
            (All-append (λ k. k < n + 1) xs (n ∷ ys) (All-weaker (λ k. k < n) (λ k. k < n + 1) (λ k h. omega (arith, h)) xs within_xs)
            (All-cons (λ k. k < n + 1) n ys (omega arith) (All-weaker (λ k. k < n) (λ k. k < n + 1) (λ k h. omega (arith, h)) ys within_ys)));
        all = λ k h.
            elim (cases_eq k n) as (λ _. Contains (insert ns place n) k) [
              | inl same ↦ Contains-append_right xs (n ∷ ys) k (0, omega arith, sym same)
              | inr other ↦
                  elim (Contains-append_cases xs ys k (subst (λ zs. Contains zs k) (sym (take-append-drop place ns)) (are.all k (omega (arith, h, size, other))))) as (λ _. Contains (insert ns place n) k) [
                    | inl front ↦ Contains-append_left xs (n ∷ ys) k front
                    | inr back ↦ Contains-append_right xs (n ∷ ys) k (Contains-append_right (n ∷ []) ys k back)
                  ]
            ];
        descending = descending-joined cmp both n xs ys (descending-take cmp both place ns longer) above across below (descending-drop cmp both place ns longer);
      }

-- what a set of keys is after a new one
key_is_new : (ms new : List Monomial) (m : Monomial) (b : Bool) → list_any (same_monomial m) ms ≡ b → IsNew ms m → new ≡ cond b ms (ms ++ m ∷ []) → new ≡ ms ++ m ∷ []
key_is_new ms new m false found none is = is
key_is_new ms new m true found none is =
    let there = Contains-from_any (λ x y same. same_monomial-true x y same) m ms found in
    absurd (none there.0 there.1 (get_or_default ms there.0 [] m there.1 ∙ there.2))

pub key_added : (ms new : List Monomial) (m : Monomial) → IsNew ms m → new ≡ cond (list_any (same_monomial m) ms) ms (ms ++ m ∷ []) → new ≡ ms ++ m ∷ []
key_added ms new m none is = key_is_new ms new m (list_any (same_monomial m) ms) refl none is
