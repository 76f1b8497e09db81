-- Coefficients by number as lists of terms.
use Rattle.std.proofs.Common.{◌≡◌, ◌≢◌, ◌⊎◌, inl, inr, ℕ, zero, suc, ◌+◌, ◌-◌, ◌*◌, ◌%◌, ◌<◌, ◌≤◌, List, [], ◌∷◌, ◌++◌, length, take, drop, set, map, get_or, All, Contains, insert, Some, slice_get, refl, sym, ap, ap₂, ◌∙◌, subst, arith, length-append, length-take, length-drop, take-append-drop, get_or-set_same, get_or-set_other, get_or-drop, append-nil, append_assoc, mod-eq_of_lt, add-mul, mul-one}
use Rattle.std.specs.declared.cmp.Ordering.{Ordering}
use Rattle.std.specs.declared.cmp.Ordering.TheVariants.{Less, Equal, Greater}
use Rattle.std.proofs.Math.Nat.{mod-mod, zero-mod, mul_assoc}
use Rattle.std.proofs.lemmas.Bool.{cases_eq, cases_lt}
use Rattle.std.proofs.lemmas.List.{get_or_at, get_or_append_left, get_or_default, drop-append-le, get_or-map, map-set, map-append, length-map, drop_more, take_more}
use Rattle.std.proofs.lemmas.List.Elements.{All-nil, All-cons, All-head, All-tail, All-append, All-push, All-take, All-drop, All-weaker, All-get_or, All-from_get_or, Contains-get_or, Contains-append_left, Contains-append_right, Contains-append_cases}
use Rattle.ffc_field.specs.Modular.{add_mod, mul_mod, neg_mod}
use Rattle.ffc_ring.specs.Monomial.{Monomial, mono_mul}
use Rattle.ffc_ring.specs.Polynomial.{Terms, written, coefficient, SamePolynomial, term_product, scaled, difference}
use Rattle.ffc_ring.proofs.PolynomialLemmas.{weighted, weighted-append, weighted-term_product, SamePolynomial-from_weighted, sum_alike, times_alike, negated_mod, cases_monomial, written-at, written-off, same_sums}
use Rattle.ffc_mono.specs.MonomialOrder.{IsMonomialOrder}
use Rattle.ffc_mono.specs.Leading.{IsLeading}
use Rattle.ffc_mono.proofs.LeadingLemmas.{turned_back, greater_trans, not_itself}
use Rattle.ffc_poly.specs.Ordered.{values_of, residues, IsAbove, IsOrdered}
use Rattle.ffc_dense.specs.Columns.{IsDescending, AreColumns, AreApart, AreNumbers, listed, terms_of, Grows}
use Rattle.ffc_dense.proofs.ColumnLemmas.{Above, descending_at}

-- ---- lists

pub length-listed : (ks : List ℕ) (ms : List Monomial) (ns : List ℕ) → length (listed ks ms ns) ≡ length ns
length-listed ks ms [] = refl
length-listed ks ms (n ∷ ns) = ap suc (length-listed ks ms ns)

pub listed-append : (ks : List ℕ) (ms : List Monomial) (xs ys : List ℕ) → listed ks ms (xs ++ ys) ≡ listed ks ms xs ++ listed ks ms ys
listed-append ks ms [] ys = refl
listed-append ks ms (x ∷ xs) ys = ap (λ r. (get_or ks x 0, get_or ms x []) ∷ r) (listed-append ks ms xs ys)

-- the first of the terms from a place on
pub listed_from : (ks : List ℕ) (ms : List Monomial) (ns : List ℕ) (i : ℕ) → i < length ns → listed ks ms (drop i ns) ≡ (get_or ks (get_or ns i 0) 0, get_or ms (get_or ns i 0) []) ∷ listed ks ms (drop (i + 1) ns)
listed_from ks ms ns i inside = ap (listed ks ms) (drop_more ns i 0 inside)

pub some_listed : (ks : List ℕ) (ms : List Monomial) (ns : List ℕ) (i : ℕ) → 0 < length (listed ks ms (drop i ns)) → i < length ns
some_listed ks ms ns i some = omega (arith, some, length-listed ks ms (drop i ns), length-drop i ns)

-- more monomials and coefficients
pub listed-more : (ks js : List ℕ) (ms more : List Monomial) (ns : List ℕ) → length ks ≡ length ms → All (λ n. n < length ms) ns → listed (ks ++ js) (ms ++ more) ns ≡ listed ks ms ns
listed-more ks js ms more [] same w = refl
listed-more ks js ms more (n ∷ ns) same w =
    let here : n < length ms = All-head (λ n. n < length ms) n ns w in
    ap₂ (λ t r. t ∷ r) (ap₂ (λ k m. (k, m)) (get_or_append_left ks js 0 n (omega (arith, same, here))) (get_or_append_left ms more [] n here))
    (listed-more ks js ms more ns same (All-tail (λ n. n < length ms) n ns w))

pub terms_of-more : {F : Type 0} (value : F → ℕ) (ms more : List Monomial) (ts : List (ℕ × F)) → AreNumbers (length ms) ts → terms_of value (ms ++ more) ts ≡ terms_of value ms ts
terms_of-more value ms more [] w = refl
terms_of-more value ms more (t ∷ ts) w =
    ap₂ (λ m r. (value t.1, m) ∷ r) (get_or_append_left ms more [] t.0 (All-head (λ t. t.0 < length ms) t ts w))
    (terms_of-more value ms more ts (All-tail (λ t. t.0 < length ms) t ts w))

pub numbers-more : {F : Type 0} (ms more : List Monomial) (ts : List (ℕ × F)) → AreNumbers (length ms) ts → AreNumbers (length (ms ++ more)) ts
numbers-more ms more ts w = All-weaker (λ t. t.0 < length ms) (λ t. t.0 < length (ms ++ more)) (λ t h. omega (arith, h, length-append ms more)) ts w

pub terms_of-push : {F : Type 0} (value : F → ℕ) (ms : List Monomial) (ts : List (ℕ × F)) (t : ℕ × F) → terms_of value ms (ts ++ t ∷ []) ≡ terms_of value ms ts ++ (value t.1, get_or ms t.0 []) ∷ []
terms_of-push value ms [] t = refl
terms_of-push value ms (u ∷ ts) t = ap (λ r. (value u.1, get_or ms u.0 []) ∷ r) (terms_of-push value ms ts t)

-- ---- a coefficient that is raised

contains_cases : (x : ℕ) (xs : List ℕ) (y : ℕ) → Contains (x ∷ xs) y → (x ≡ y) ⊎ Contains xs y
contains_cases x xs y has = elim (Contains-append_cases (x ∷ []) xs y has) as (λ _. (x ≡ y) ⊎ Contains xs y) [
  | inl first ↦ inl (only x y first)
  | inr rest ↦ inr rest
]
  where
    only : (x y : ℕ) → Contains (x ∷ []) y → x ≡ y
    only x y (zero, h, e) = e
    only x y (suc k, h, e) = absurd (omega arith)

listed-set_off : (ks : List ℕ) (ms : List Monomial) (ns : List ℕ) (n v : ℕ) → All (λ k. k ≢ n) ns → listed (set ks n v) ms ns ≡ listed ks ms ns
listed-set_off ks ms [] n v off = refl
listed-set_off ks ms (k ∷ ns) n v off =
    ap₂ (λ c r. (c, get_or ms k []) ∷ r) (get_or-set_other ks n k v 0 (All-head (λ k. k ≢ n) k ns off)) (listed-set_off ks ms ns n v (All-tail (λ k. k ≢ n) k ns off))

module _ (p : ℕ) (ks : List ℕ) (ms : List Monomial) (n v x : ℕ) (inside : n < length ks) (raised : v ≡ (get_or ks n 0 + x) % p) where
  raised_weights : (g : Monomial → ℕ) (ns : List ℕ) → AreApart ns → Contains ns n → weighted g (listed (set ks n v) ms ns) % p ≡ (weighted g (listed ks ms ns) + x * g (get_or ms n [])) % p
  raised_weights g [] a has = absurd (omega (arith, has.1))
  raised_weights g (k ∷ ns) a has =
      elim (cases_eq k n) as (λ _. weighted g (listed (set ks n v) ms (k ∷ ns)) % p ≡ (weighted g (listed ks ms (k ∷ ns)) + x * g (get_or ms n [])) % p) [
        | inl same ↦
            let G : ℕ = g (get_or ms n []) in
            let R : ℕ = weighted g (listed ks ms ns) in
            let c : ℕ = get_or ks n 0 in
            let off : listed (set ks n v) ms ns ≡ listed ks ms ns = listed-set_off ks ms ns n v (All-weaker (λ j. j ≢ k) (λ j. j ≢ n) (λ j h e. h (e ∙ sym same)) ns a.0) in
            let first : weighted g (listed (set ks n v) ms (k ∷ ns)) ≡ v * G + R =
            ap₂ (λ j r. get_or (set ks n v) j 0 * g (get_or ms j []) + r) same (ap (weighted g) off) ∙ ap (λ c. c * G + R) (get_or-set_same ks n v 0 inside) in
            let second : weighted g (listed ks ms (k ∷ ns)) ≡ c * G + R = ap (λ j. get_or ks j 0 * g (get_or ms j []) + R) same in
            let alike : (v * G) % p ≡ ((c + x) * G) % p = times_alike p v (c + x) G (ap (λ w. w % p) raised ∙ mod-mod (c + x) p) in
            let swap : (c + x) * G + R ≡ c * G + R + x * G = omega (arith, add-mul c x G) in
            ap (λ w. w % p) first ∙ sum_alike p (v * G) ((c + x) * G) R R alike refl ∙ ap (λ w. w % p) (swap ∙ ap (λ w. w + x * G) (sym second))
        | inr other ↦
            let G : ℕ = g (get_or ms n []) in
            let H : ℕ = get_or ks k 0 * g (get_or ms k []) in
            let W : ℕ = weighted g (listed (set ks n v) ms ns) in
            let R : ℕ = weighted g (listed ks ms ns) in
            let rest : Contains ns n = elim (contains_cases k ns n has) as (λ _. Contains ns n) [ inl here ↦ absurd (other here) | inr there ↦ there ] in
            let first : weighted g (listed (set ks n v) ms (k ∷ ns)) ≡ H + W = ap (λ c. c * g (get_or ms k []) + W) (get_or-set_other ks n k v 0 other) in
            let swap : H + (R + x * G) ≡ H + R + x * G = omega arith in
            ap (λ w. w % p) first ∙ sum_alike p H H W (R + x * G) refl (raised_weights g ns a.1 rest) ∙ ap (λ w. w % p) swap
      ]

  pub raised_listed : (ns : List ℕ) → AreApart ns → Contains ns n → SamePolynomial p (listed (set ks n v) ms ns) (listed ks ms ns ++ (x, get_or ms n []) ∷ [])
  raised_listed ns a has =
      SamePolynomial-from_weighted p (listed (set ks n v) ms ns) (listed ks ms ns ++ (x, get_or ms n []) ∷ [])
      (λ g. raised_weights g ns a has ∙ ap (λ w. w % p) (sym (weighted-append g (listed ks ms ns) ((x, get_or ms n []) ∷ []) ∙ ap (λ w. weighted g (listed ks ms ns) + w) (let e : x * g (get_or ms n []) + 0 ≡ x * g (get_or ms n []) = omega arith in e))))

-- ---- the leading term

module _ (p : ℕ) (cmp : Monomial → Monomial → Ordering) (laws : IsMonomialOrder cmp) (ks : List ℕ) (ms : List Monomial) where
  written_below : (m : Monomial) (ns : List ℕ) → All (λ k. cmp m (get_or ms k []) ≡ Greater) ns → written (listed ks ms ns) m ≡ 0
  written_below m [] below = refl
  written_below m (n ∷ ns) below =
      written-off m (get_or ks n 0, get_or ms n []) (listed ks ms ns) (λ e. not_itself cmp laws m (get_or ms n []) (All-head (λ k. cmp m (get_or ms k []) ≡ Greater) n ns below) (sym e))
      ∙ written_below m ns (All-tail (λ k. cmp m (get_or ms k []) ≡ Greater) n ns below)

  some_below : (m x : Monomial) (ns : List ℕ) → All (λ k. cmp m (get_or ms k []) ≡ Greater) ns → coefficient p (listed ks ms ns) x ≢ 0 → cmp m x ≡ Greater
  some_below m x [] below some = absurd (some (zero-mod p))
  some_below m x (n ∷ ns) below some =
      elim (cases_monomial (get_or ms n []) x) as (λ _. cmp m x ≡ Greater) [
        | inl here ↦ ap (cmp m) (sym here) ∙ All-head (λ k. cmp m (get_or ms k []) ≡ Greater) n ns below
        | inr there ↦
            some_below m x ns (All-tail (λ k. cmp m (get_or ms k []) ≡ Greater) n ns below)
            (λ none. some (ap (λ w. w % p) (written-off x (get_or ks n 0, get_or ms n []) (listed ks ms ns) there) ∙ none))
      ]

  leading : (n : ℕ) (ns : List ℕ) → IsDescending cmp ms (n ∷ ns) → get_or ks n 0 < p → get_or ks n 0 ≢ 0 → IsLeading p cmp (listed ks ms (n ∷ ns)) (get_or ks n 0) (get_or ms n [])
  leading n ns d below some =
      let m : Monomial = get_or ms n [] in
      let c : ℕ = get_or ks n 0 in (
        ap (λ w. w % p) (written-at m (c, m) (listed ks ms ns) refl ∙ ap (λ w. c + w) (written_below m ns d.0) ∙ (let e : c + 0 ≡ c = omega arith in e)) ∙ mod-eq_of_lt below,
        some,
        λ x nonzero other. some_below m x ns d.0 (λ none. nonzero (ap (λ w. w % p) (written-off x (c, m) (listed ks ms ns) (λ e. other (sym e))) ∙ none)),
      )

  descending_from : (i : ℕ) (ns : List ℕ) → IsDescending cmp ms ns → IsDescending cmp ms (drop i ns)
  descending_from zero ns d = d
  descending_from (suc i) [] d = tt
  descending_from (suc i) (n ∷ ns) d = descending_from i ns d.1

  pub leading_from : (ns : List ℕ) (i : ℕ) → IsDescending cmp ms ns → i < length ns → get_or ks (get_or ns i 0) 0 < p → get_or ks (get_or ns i 0) 0 ≢ 0 → IsLeading p cmp (listed ks ms (drop i ns)) (get_or ks (get_or ns i 0) 0) (get_or ms (get_or ns i 0) [])
  leading_from ns i d inside below some =
      subst (λ l. IsLeading p cmp (listed ks ms l) (get_or ks (get_or ns i 0) 0) (get_or ms (get_or ns i 0) [])) (sym (drop_more ns i 0 inside))
      (leading (get_or ns i 0) (drop (i + 1) ns) (subst (IsDescending cmp ms) (drop_more ns i 0 inside) (descending_from i ns d)) below some)

-- ---- a new column

drop_past : (xs ys : List ℕ) (k : ℕ) → drop (length xs + k) (xs ++ ys) ≡ drop k ys
drop_past [] ys k = ap (λ n. drop n ys) (let e : 0 + k ≡ k = omega arith in e)
drop_past (x ∷ xs) ys k = ap (λ n. drop n (x ∷ xs ++ ys)) (let e : suc (length xs) + k ≡ suc (length xs + k) = omega arith in e) ∙ drop_past xs ys k

-- a number put before the place goes with it
pub inserted_before : (ns : List ℕ) (place from n : ℕ) → place < from → place ≤ length ns → drop (from + 1) (insert ns place n) ≡ drop from ns
inserted_before ns place from n before inside =
    let xs = take place ns in
    let ys = drop place ns in
    let size : length xs ≡ place = omega (arith, length-take place ns, inside) in
    ap (λ k. drop k (xs ++ n ∷ ys)) (let e : from + 1 ≡ length xs + suc (from - place) = omega (arith, size, before) in e)
    ∙ drop_past xs (n ∷ ys) (suc (from - place))
    ∙ sym (ap (λ k. drop k ns) (let e : from ≡ length xs + (from - place) = omega (arith, size, before) in e) ∙ ap (drop (length xs + (from - place))) (sym (take-append-drop place ns)) ∙ drop_past xs ys (from - place))

-- one put later has the coefficient 0
pub inserted_after : (p : ℕ) (ks : List ℕ) (ms : List Monomial) (ns : List ℕ) (place from n : ℕ) → from ≤ place → place ≤ length ns → get_or ks n 0 ≡ 0 → SamePolynomial p (listed ks ms (drop from (insert ns place n))) (listed ks ms (drop from ns))
inserted_after p ks ms ns place from n after inside none =
    let xs = take place ns in
    let ys = drop place ns in
    let size : length xs ≡ place = omega (arith, length-take place ns, inside) in
    let zs = drop from xs in
    let one : drop from (insert ns place n) ≡ zs ++ n ∷ ys = drop-append-le from xs (n ∷ ys) (omega (arith, size, after)) in
    let two : drop from ns ≡ zs ++ ys = ap (drop from) (sym (take-append-drop place ns)) ∙ drop-append-le from xs ys (omega (arith, size, after)) in
    SamePolynomial-from_weighted p (listed ks ms (drop from (insert ns place n))) (listed ks ms (drop from ns))
    (λ g. ap (λ w. w % p)
    (ap (λ l. weighted g (listed ks ms l)) one ∙ ap (weighted g) (listed-append ks ms zs (n ∷ ys)) ∙ weighted-append g (listed ks ms zs) (listed ks ms (n ∷ ys))
    ∙ ap (λ c. weighted g (listed ks ms zs) + (c * g (get_or ms n []) + weighted g (listed ks ms ys))) none
    ∙ (let e : weighted g (listed ks ms zs) + (0 * g (get_or ms n []) + weighted g (listed ks ms ys)) ≡ weighted g (listed ks ms zs) + weighted g (listed ks ms ys) = omega (arith, zero_times (g (get_or ms n []))) in e)
    ∙ sym (ap (λ l. weighted g (listed ks ms l)) two ∙ ap (weighted g) (listed-append ks ms zs ys) ∙ weighted-append g (listed ks ms zs) (listed ks ms ys))))
  where
    zero_times : (x : ℕ) → 0 * x ≡ 0
    zero_times x = omega arith

-- ---- zeros

pub zeros_listed : (g : Monomial → ℕ) (ks : List ℕ) (ms : List Monomial) (ns : List ℕ) → ((n : ℕ) → get_or ks n 0 ≡ 0) → weighted g (listed ks ms ns) ≡ 0
zeros_listed g ks ms [] none = refl
zeros_listed g ks ms (n ∷ ns) none = ap₂ (λ c r. c * g (get_or ms n []) + r) (none n) (zeros_listed g ks ms ns none) ∙ (let e : 0 * g (get_or ms n []) + 0 ≡ 0 = omega arith in e)

-- places before which all is 0
pub zeros_before : (p : ℕ) (ks : List ℕ) (ms : List Monomial) (ns : List ℕ) (from k : ℕ) → from + k ≤ length ns → ((j : ℕ) → from ≤ j → j < from + k → get_or ks (get_or ns j 0) 0 ≡ 0) → SamePolynomial p (listed ks ms (drop (from + k) ns)) (listed ks ms (drop from ns))
zeros_before p ks ms ns from zero inside none m = ap (λ i. coefficient p (listed ks ms (drop i ns)) m) (let e : from + 0 ≡ from = omega arith in e)
zeros_before p ks ms ns from (suc k) inside none m =
    ap (λ i. coefficient p (listed ks ms (drop i ns)) m) (let e : from + suc k ≡ from + 1 + k = omega arith in e)
    ∙ zeros_before p ks ms ns (from + 1) k (omega arith) (λ j l h. none j (omega arith) (omega arith)) m
    ∙ sym (ap (λ ts. coefficient p ts m) (listed_from ks ms ns from (omega arith)) ∙ first_none m)
  where
    first_none : (m : Monomial) → coefficient p ((get_or ks (get_or ns from 0) 0, get_or ms (get_or ns from 0) []) ∷ listed ks ms (drop (from + 1) ns)) m ≡ coefficient p (listed ks ms (drop (from + 1) ns)) m
    first_none m =
        elim (cases_monomial (get_or ms (get_or ns from 0) []) m) as (λ _. coefficient p ((get_or ks (get_or ns from 0) 0, get_or ms (get_or ns from 0) []) ∷ listed ks ms (drop (from + 1) ns)) m ≡ coefficient p (listed ks ms (drop (from + 1) ns)) m) [
          | inl here ↦
              ap (λ w. w % p) (written-at m (get_or ks (get_or ns from 0) 0, get_or ms (get_or ns from 0) []) (listed ks ms (drop (from + 1) ns)) here ∙ ap (λ c. c + written (listed ks ms (drop (from + 1) ns)) m) (none from (omega arith) (omega arith)) ∙ (let e : 0 + written (listed ks ms (drop (from + 1) ns)) m ≡ written (listed ks ms (drop (from + 1) ns)) m = omega arith in e))
          | inr there ↦ ap (λ w. w % p) (written-off m (get_or ks (get_or ns from 0) 0, get_or ms (get_or ns from 0) []) (listed ks ms (drop (from + 1) ns)) there)
        ]

-- ---- terms whose first monomial is that at a place

above_at : {F : Type 0} (value : F → ℕ) (cmp : Monomial → Monomial → Ordering) (ms : List Monomial) (m : Monomial) (ts : List (ℕ × F)) → IsAbove cmp m (terms_of value ms ts) → All (λ t. cmp m (get_or ms t.0 []) ≡ Greater) ts
above_at value cmp ms m [] a = All-nil (λ t. cmp m (get_or ms t.0 []) ≡ Greater)
above_at value cmp ms m (t ∷ ts) a = All-cons (λ t. cmp m (get_or ms t.0 []) ≡ Greater) t ts a.0 (above_at value cmp ms m ts a.1)

-- a number whose monomial is below that at a place comes after it
comes_after : (cmp : Monomial → Monomial → Ordering) (laws : IsMonomialOrder cmp) (ms : List Monomial) (ns : List ℕ) (from n : ℕ) → AreColumns cmp ms ns → from < length ns → n < length ms → cmp (get_or ms (get_or ns from 0) []) (get_or ms n []) ≡ Greater → Contains (drop from ns) n
comes_after cmp laws ms ns from n are inside known below =
    let has = are.all n known in
    let i = has.0 in
    let is : get_or ns i 0 ≡ n = get_or_default ns i 0 n has.1 ∙ has.2 in
    elim (cases_lt i from) as (λ _. Contains (drop from ns) n) [
      | inl before ↦
          let above : cmp (get_or ms n []) (get_or ms (get_or ns from 0) []) ≡ Greater = ap (λ k. cmp (get_or ms k []) (get_or ms (get_or ns from 0) [])) (sym is) ∙ descending_at cmp ms ns i from are.descending before inside in
          let less : cmp (get_or ms n []) (get_or ms (get_or ns from 0) []) ≡ Less = turned_back cmp laws (get_or ms (get_or ns from 0) []) (get_or ms n []) below in
          let both : Less ≡ Greater = sym less ∙ above in absurd (cc both)
      | inr after ↦
          let place : i - from < length (drop from ns) = omega (arith, has.1, after, length-drop from ns) in
          subst (Contains (drop from ns)) (get_or-drop from ns (i - from) 0 ∙ ap (λ k. get_or ns k 0) (let e : from + (i - from) ≡ i = omega (arith, after) in e) ∙ is) (Contains-get_or (drop from ns) (i - from) 0 place)
    ]

pub all_after : {F : Type 0} (value : F → ℕ) (p : ℕ) (cmp : Monomial → Monomial → Ordering) (laws : IsMonomialOrder cmp) (ms : List Monomial) (ns : List ℕ) (from : ℕ) (t : ℕ × F) (ts : List (ℕ × F)) → AreColumns cmp ms ns → from < length ns → AreNumbers (length ms) (t ∷ ts) → IsOrdered p cmp 1024 (terms_of value ms (t ∷ ts)) → t.0 ≡ get_or ns from 0 → All (λ u. Contains (drop from ns) u.0) (t ∷ ts)
all_after value p cmp laws ms ns from t ts are inside known ordered first =
    let here : Contains (drop from ns) t.0 = subst (Contains (drop from ns)) (get_or-drop from ns 0 0 ∙ ap (λ k. get_or ns k 0) (let e : from + 0 ≡ from = omega arith in e) ∙ sym first) (Contains-get_or (drop from ns) 0 0 (omega (arith, inside, length-drop from ns))) in
    let below = above_at value cmp ms (get_or ms t.0 []) ts ordered.4 in
    All-cons (λ u. Contains (drop from ns) u.0) t ts here
    (All-from_get_or (λ u. Contains (drop from ns) u.0) ts t
    (λ i h.
    comes_after cmp laws ms ns from (get_or ts i t).0 are inside (All-get_or (λ u. u.0 < length ms) ts i t h (All-tail (λ u. u.0 < length ms) t ts known))
    (ap (λ k. cmp (get_or ms k []) (get_or ms (get_or ts i t).0 [])) (sym first) ∙ All-get_or (λ u. cmp (get_or ms t.0 []) (get_or ms u.0 []) ≡ Greater) ts i t h below)))

-- ---- multiples

pub nothing_added : {F : Type 0} (value : F → ℕ) (p c : ℕ) (ms : List Monomial) (a : Terms) → SamePolynomial p a (a ++ scaled c (terms_of value ms []))
nothing_added value p c ms a m = ap (λ ts. coefficient p ts m) (sym (append-nil a))

-- one more term of a multiple
pub one_more : {F : Type 0} (value : F → ℕ) (p c : ℕ) (ms : List Monomial) (a b d : Terms) (ts : List (ℕ × F)) (t : ℕ × F) → SamePolynomial p b (a ++ scaled c (terms_of value ms ts)) → SamePolynomial p d (b ++ ((c * value t.1) % p, get_or ms t.0 []) ∷ []) → SamePolynomial p d (a ++ scaled c (terms_of value ms (ts ++ t ∷ [])))
one_more value p c ms a b d ts t before now =
    let m : Monomial = get_or ms t.0 [] in
    let f : ℕ = value t.1 in
    let front : Terms = terms_of value ms ts in
    let single : SamePolynomial p (((c * f) % p, m) ∷ []) (scaled c ((f, m) ∷ [])) =
    SamePolynomial-from_weighted p (((c * f) % p, m) ∷ []) (scaled c ((f, m) ∷ []))
    (λ g. sum_alike p ((c * f) % p * g m) (c * f * g m) 0 0 (times_alike p ((c * f) % p) (c * f) (g m) (mod-mod (c * f) p)) refl) in
    let joined : SamePolynomial p (b ++ ((c * f) % p, m) ∷ []) (a ++ scaled c front ++ scaled c ((f, m) ∷ [])) = same_sums p b (a ++ scaled c front) (((c * f) % p, m) ∷ []) (scaled c ((f, m) ∷ [])) before single in
    let whole : SamePolynomial p (a ++ scaled c front ++ scaled c ((f, m) ∷ [])) (a ++ scaled c (terms_of value ms (ts ++ t ∷ []))) =
    SamePolynomial-from_weighted p (a ++ scaled c front ++ scaled c ((f, m) ∷ [])) (a ++ scaled c (terms_of value ms (ts ++ t ∷ [])))
    (λ g. ap (λ w. w % p)
    (weighted-append g (a ++ scaled c front) (scaled c ((f, m) ∷ [])) ∙ ap (λ w. w + weighted g (scaled c ((f, m) ∷ []))) (weighted-append g a (scaled c front))
    ∙ (let e : weighted g a + weighted g (scaled c front) + weighted g (scaled c ((f, m) ∷ [])) ≡ weighted g a + (weighted g (scaled c front) + weighted g (scaled c ((f, m) ∷ []))) = omega arith in e)
    ∙ sym (weighted-append g a (scaled c (terms_of value ms (ts ++ t ∷ []))) ∙ ap (λ w. weighted g a + w) (ap (λ r. weighted g (scaled c r)) (terms_of-push value ms ts t) ∙ scaled_append g c front ((f, m) ∷ []))))) in
    λ x. now x ∙ joined x ∙ whole x
  where
    scaled_append : (g : Monomial → ℕ) (c : ℕ) (a b : Terms) → weighted g (scaled c (a ++ b)) ≡ weighted g (scaled c a) + weighted g (scaled c b)
    scaled_append g c [] b = let e : weighted g (scaled c b) ≡ 0 + weighted g (scaled c b) = omega arith in e
    scaled_append g c (t ∷ a) b =
        ap (λ w. c * t.0 * g (mono_mul [] t.1) + w) (scaled_append g c a b)
        ∙ (let e : c * t.0 * g (mono_mul [] t.1) + (weighted g (scaled c a) + weighted g (scaled c b)) ≡ c * t.0 * g (mono_mul [] t.1) + weighted g (scaled c a) + weighted g (scaled c b) = omega arith in e)

-- ---- elements

pub value_read : {F : Type 0} (value : F → ℕ) (xs : List F) (i n : ℕ) (x : F) → i < length xs → x ≡ get_or xs i x → i ≡ n → get_or (values_of value xs) n 0 ≡ value x
value_read value xs i n x within is at = ap (λ k. get_or (values_of value xs) k 0) (sym at) ∙ get_or-map value xs i x 0 within ∙ ap value (sym is)

-- one more element is 0
pub zero_more : {F : Type 0} (value : F → ℕ) (xs : List F) (n : ℕ) (z : F) → value z ≡ 0 → ((k : ℕ) → k < n → get_or (values_of value xs) k 0 ≡ 0) → (k : ℕ) → k < n + 1 → get_or (values_of value (set xs n z)) k 0 ≡ 0
zero_more value xs n z none before k h =
    ap (λ ks. get_or ks k 0) (map-set value xs n z)
    ∙ elim (cases_eq k n) as (λ _. get_or (set (values_of value xs) n (value z)) k 0 ≡ 0) [
      | inl same ↦ ap (λ j. get_or (set (values_of value xs) n (value z)) j 0) same ∙ written_zero (values_of value xs) n
      | inr other ↦ get_or-set_other (values_of value xs) n k (value z) 0 other ∙ before k (omega (arith, h, other))
    ]
  where
    written_zero : (ks : List ℕ) (n : ℕ) → get_or (set ks n (value z)) n 0 ≡ 0
    written_zero [] n = refl
    written_zero (k ∷ ks) zero = none
    written_zero (k ∷ ks) (suc n) = written_zero ks n

-- ---- terms in place of a polynomial, and terms subtracted

pub loaded : (p one : ℕ) (ks : List ℕ) (ms : List Monomial) (ns : List ℕ) (ts : Terms) → 1 < p → one ≡ 1 % p → ((n : ℕ) → get_or ks n 0 ≡ 0) → SamePolynomial p (listed ks ms ns ++ scaled one ts) ts
loaded p one ks ms ns ts big is none =
    SamePolynomial-from_weighted p (listed ks ms ns ++ scaled one ts) ts
    (λ g. ap (λ w. w % p)
    (weighted-append g (listed ks ms ns) (scaled one ts) ∙ ap₂ (λ x y. x + y) (zeros_listed g ks ms ns none) (weighted-term_product g one [] ts ∙ ap (λ k. k * weighted g ts) (is ∙ mod-eq_of_lt big))
    ∙ (let e : 0 + 1 * weighted g ts ≡ weighted g ts = omega arith in e)))

pub AreApart-drop : (i : ℕ) (ns : List ℕ) → AreApart ns → AreApart (drop i ns)
AreApart-drop zero ns a = a
AreApart-drop (suc i) [] a = tt
AreApart-drop (suc i) (n ∷ ns) a = AreApart-drop i ns a.1

pub subtracted : (p c minus : ℕ) (a ts : Terms) → c < p → minus ≡ neg_mod p c → SamePolynomial p (a ++ scaled minus ts) (difference p a (scaled c ts))
subtracted p c minus a ts below is =
    same_sums p a a (scaled minus ts) (scaled (p - 1) (scaled c ts)) (λ m. refl)
    (SamePolynomial-from_weighted p (scaled minus ts) (scaled (p - 1) (scaled c ts))
    (λ g.
    let alike : minus % p ≡ ((p - 1) * c) % p = ap (λ k. k % p) (is ∙ ap (λ k. (p - k) % p) (sym (mod-eq_of_lt below)) ∙ sym (negated_mod p c (omega (arith, below)))) ∙ mod-mod ((p - 1) * c) p in
    ap (λ w. w % p) (weighted-term_product g minus [] ts) ∙ times_alike p minus ((p - 1) * c) (weighted g ts) alike
    ∙ ap (λ w. w % p) (mul_assoc (p - 1) c (weighted g ts) ∙ sym (weighted-term_product g (p - 1) [] (scaled c ts) ∙ ap (λ w. (p - 1) * w) (weighted-term_product g c [] ts)))))

pub first_then_after : {F : Type 0} (value : F → ℕ) (p : ℕ) (cmp : Monomial → Monomial → Ordering) (laws : IsMonomialOrder cmp) (ms : List Monomial) (ns : List ℕ) (from : ℕ) (t : ℕ × F) (ts : List (ℕ × F)) → AreColumns cmp ms ns → from < length ns → AreNumbers (length ms) ts → IsOrdered p cmp 1024 (terms_of value ms ts) → Some t ≡ slice_get ts 0 → t.0 ≡ get_or ns from 0 → All (λ u. Contains (drop from ns) u.0) ts
first_then_after value p cmp laws ms ns from t [] are inside known ordered is first = absurd (cc is)
first_then_after {F = F} value p cmp laws ms ns from t (u ∷ ts) are inside known ordered is first =
    all_after value p cmp laws ms ns from u ts are inside known ordered (ap (λ (x : ℕ × F). x.0) (sym (same_some is)) ∙ first)
  where
    same_some : Some t ≡ Some u → t ≡ u
    same_some e = cc e

-- ---- one more monomial

pub grown : {F : Type 0} (value : F → ℕ) (p : ℕ) (cs : List F) (z : F) (ms : List Monomial) (m : Monomial) (ns : List ℕ) (place from : ℕ) → length cs ≡ length ms → All (λ n. n < length ms) ns → place ≤ length ns → from ≤ place → value z ≡ 0 → SamePolynomial p (listed (values_of value (cs ++ z ∷ [])) (ms ++ m ∷ []) (drop from (insert ns place (length ms)))) (listed (values_of value cs) ms (drop from ns))
grown value p cs z ms m ns place from long within inside after none =
    let ks = values_of value cs in
    let js : values_of value (cs ++ z ∷ []) ≡ ks ++ value z ∷ [] = map-append value cs (z ∷ []) in
    let size : length ks ≡ length ms = length-map cs value ∙ long in
    let zero_there : get_or (values_of value (cs ++ z ∷ [])) (length ms) 0 ≡ 0 = ap (λ l. get_or l (length ms) 0) js ∙ get_or_at ks (value z) [] 0 (length ms) size ∙ none in
    let kept : listed (values_of value (cs ++ z ∷ [])) (ms ++ m ∷ []) (drop from ns) ≡ listed ks ms (drop from ns) =
    ap (λ l. listed l (ms ++ m ∷ []) (drop from ns)) js ∙ listed-more ks (value z ∷ []) ms (m ∷ []) (drop from ns) size (All-drop (λ n. n < length ms) from ns within) in
    λ x. inserted_after p (values_of value (cs ++ z ∷ [])) (ms ++ m ∷ []) ns place from (length ms) after inside zero_there x ∙ ap (λ ts. coefficient p ts x) kept

pub grown_before : {F : Type 0} (value : F → ℕ) (p : ℕ) (cs : List F) (z : F) (ms : List Monomial) (m : Monomial) (ns : List ℕ) (place from : ℕ) → length cs ≡ length ms → All (λ n. n < length ms) ns → place ≤ length ns → place < from → SamePolynomial p (listed (values_of value (cs ++ z ∷ [])) (ms ++ m ∷ []) (drop (from + 1) (insert ns place (length ms)))) (listed (values_of value cs) ms (drop from ns))
grown_before value p cs z ms m ns place from long within inside before x =
    let ks = values_of value cs in
    let js : values_of value (cs ++ z ∷ []) ≡ ks ++ value z ∷ [] = map-append value cs (z ∷ []) in
    ap (λ l. coefficient p (listed (values_of value (cs ++ z ∷ [])) (ms ++ m ∷ []) l) x) (inserted_before ns place from (length ms) before inside)
    ∙ ap (λ l. coefficient p (listed l (ms ++ m ∷ []) (drop from ns)) x) js
    ∙ ap (λ ts. coefficient p ts x) (listed-more ks (value z ∷ []) ms (m ∷ []) (drop from ns) (length-map cs value ∙ long) (All-drop (λ n. n < length ms) from ns within))

pub grows_itself : (p : ℕ) (d : List Monomial × Terms) → Grows p d d
grows_itself p d = record { more = ([], sym (append-nil d.0)); same = λ m. refl }

pub grows_on : (p : ℕ) (old mid new : List Monomial × Terms) → Grows p old mid → Grows p mid new → Grows p old new
grows_on p old mid new first second =
    record {
      more = (first.more.0 ++ second.more.0, second.more.1 ∙ ap (λ ms. ms ++ second.more.0) first.more.1 ∙ append_assoc old.0 first.more.0 second.more.0);
      same = λ m. second.same m ∙ first.same m;
    }

-- one more term that has a number
pub numbered_more : {F : Type 0} (value : F → ℕ) (p : ℕ) (old mid new : List Monomial × Terms) (ts : List (ℕ × F)) (n : ℕ) (x : F) (poly : Terms) (i : ℕ) → Grows p old mid → Grows p mid new → terms_of value mid.0 ts ≡ take i poly → AreNumbers (length mid.0) ts → n < length new.0 → get_or new.0 n [] ≡ (get_or poly i (0, [])).1 → value x ≡ (get_or poly i (0, [])).0 → i < length poly → (terms_of value new.0 (ts ++ (n, x) ∷ []) ≡ take (i + 1) poly) × AreNumbers (length new.0) (ts ++ (n, x) ∷ []) × Grows p old new
numbered_more value p old mid new ts n x poly i first second is known there monomial coefficient_is inside =
    let more = second.more.0 in
    let kept : terms_of value new.0 ts ≡ terms_of value mid.0 ts = ap (λ ms. terms_of value ms ts) second.more.1 ∙ terms_of-more value mid.0 more ts known in
    let long : length new.0 ≡ length mid.0 + length more = ap length second.more.1 ∙ length-append mid.0 more in (
      terms_of-push value new.0 ts (n, x)
          ∙ ap₂ (λ r t. r ++ t ∷ []) (kept ∙ is) (ap₂ (λ c m. (c, m)) coefficient_is monomial)
          ∙ sym (take_more poly i (0, []) inside),
      All-push (λ t. t.0 < length new.0) ts (n, x) (All-weaker (λ t. t.0 < length mid.0) (λ t. t.0 < length new.0) (λ t h. omega (arith, h, long)) ts known) there,
      grows_on p old mid new first second,
    )

-- ---- the terms other than 0

pub residues_push : {F : Type 0} (value : F → ℕ) (ts : List (F × Monomial)) (t : F × Monomial) → residues value (ts ++ t ∷ []) ≡ residues value ts ++ (value t.0, t.1) ∷ []
residues_push value [] t = refl
residues_push value (u ∷ ts) t = ap (λ r. (value u.0, u.1) ∷ r) (residues_push value ts t)

-- a term that is 0 adds nothing
pub zero_adds_nothing : (p c : ℕ) (m : Monomial) (front rest : Terms) → c ≡ 0 → SamePolynomial p (front ++ rest) (front ++ (c, m) ∷ rest)
zero_adds_nothing p c m front rest none =
    same_sums p front front rest ((c, m) ∷ rest) (λ x. refl)
    (SamePolynomial-from_weighted p rest ((c, m) ∷ rest) (λ g. ap (λ w. w % p) (let e : weighted g rest ≡ 0 * g m + weighted g rest = omega arith in e ∙ ap (λ k. k * g m + weighted g rest) (sym none))))

pub pushed_adds : {F : Type 0} (value : F → ℕ) (p : ℕ) (old new : List (F × Monomial)) (t : F × Monomial) (rest : Terms) → new ≡ old ++ t ∷ [] → SamePolynomial p (residues value new ++ rest) (residues value old ++ (value t.0, t.1) ∷ rest)
pushed_adds value p old new t rest is m =
    ap (λ ts. coefficient p ts m) (ap (λ ts. residues value ts ++ rest) is ∙ ap (λ ts. ts ++ rest) (residues_push value old t) ∙ append_assoc (residues value old) ((value t.0, t.1) ∷ []) rest)

-- the term at a place is taken along
pub one_taken : (p : ℕ) (ks : List ℕ) (ms : List Monomial) (ns : List ℕ) (i c : ℕ) (m : Monomial) (front next whole : Terms) → i < length ns → c ≡ get_or ks (get_or ns i 0) 0 → m ≡ get_or ms (get_or ns i 0) []
    → ((rest : Terms) → SamePolynomial p (next ++ rest) (front ++ (c, m) ∷ rest)) → SamePolynomial p (front ++ listed ks ms (drop i ns)) whole → SamePolynomial p (next ++ listed ks ms (drop (i + 1) ns)) whole
one_taken p ks ms ns i c m front next whole inside coefficient_is monomial_is adds before x =
    adds (listed ks ms (drop (i + 1) ns)) x
    ∙ ap (λ ts. coefficient p (front ++ ts) x) (ap₂ (λ k n. (k, n) ∷ listed ks ms (drop (i + 1) ns)) coefficient_is monomial_is ∙ sym (listed_from ks ms ns i inside))
    ∙ before x

-- and all of them are
pub all_taken : (p : ℕ) (ks : List ℕ) (ms : List Monomial) (ns : List ℕ) (i : ℕ) (front whole : Terms) → length ns ≤ i → SamePolynomial p (front ++ listed ks ms (drop i ns)) whole → SamePolynomial p front whole
all_taken p ks ms ns i front whole end before x = ap (λ ts. coefficient p ts x) (sym (ap (λ l. front ++ listed ks ms l) (dropped ns i end) ∙ append-nil front)) ∙ before x
  where
    dropped : (ns : List ℕ) (i : ℕ) → length ns ≤ i → drop i ns ≡ []
    dropped [] zero h = refl
    dropped [] (suc i) h = refl
    dropped (n ∷ ns) zero h = absurd (omega (arith, h))
    dropped (n ∷ ns) (suc i) h = dropped ns i (omega (arith, h))
