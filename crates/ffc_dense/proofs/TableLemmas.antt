-- Multiples that are kept.
use Rattle.std.proofs.Common.{◌≡◌, ◌≢◌, ◌⊎◌, inl, inr, ℕ, zero, suc, ◌+◌, ◌-◌, ◌*◌, ◌%◌, ◌<◌, ◌≤◌, List, [], ◌∷◌, ◌++◌, length, take, get_or, set, get_or-take, length-set, get_or-set_same, get_or-set_other, All, Option, None, Some, IfSome, slice_get, refl, sym, ap, ap₂, ◌∙◌, subst, arith, length-append, length-take}
use Rattle.std.specs.declared.cmp.Ordering.{Ordering}
use Rattle.std.proofs.lemmas.List.Elements.{All-nil, All-cons, All-head, All-tail}
use Rattle.std.proofs.Math.Nat.{mul_comm}
use Rattle.std.proofs.lemmas.Bool.{cases_eq, cases_lt}
use Rattle.std.proofs.lemmas.List.{get_or_past}
use Rattle.ffc_field.specs.Modular.{IsPrime, mul_mod}
use Rattle.ffc_ring.specs.Monomial.{Monomial, IsMonomial, mono_mul}
use Rattle.ffc_ring.specs.Polynomial.{Terms, AreTerms, SamePolynomial, term_product, scaled, difference}
use Rattle.ffc_ring.proofs.MonomialLemmas.{mono_mul_comm}
use Rattle.ffc_mono.specs.MonomialOrder.{IsMonomialOrder}
use Rattle.ffc_mono.specs.Leading.{IsLeading}
use Rattle.ffc_mono.proofs.LeadingLemmas.{leading_of_multiple, one_leading}
use Rattle.ffc_ring.proofs.PolynomialLemmas.{weighted, weighted-append, weighted-term_product, SamePolynomial-from_weighted, one_weighted, times_alike, same_sums, same_term_products}
use Rattle.ffc_poly.specs.Ordered.{IsOrdered}
use Rattle.ffc_dense.specs.Columns.{AreNumbers, terms_of, Grows, IsLonger}
use Rattle.ffc_dense.specs.Tables.{Multiple, multiple_of, multiples_of, IsKept, AreKept, AreMultiplesOf, IsLineOf, HasMultiple, IsHeldAt, LeadsMultiple, PutsAtMost, KeepsBefore}
use Rattle.ffc_dense.specs.declared.table.Kept.{Kept}
use Rattle.ffc_dense.proofs.DenseLemmas.{terms_of-more, numbers-more}
use Rattle.ffc_dense.proofs.FirstLemmas.{first_leads}

some_is : {X : Type 0} (x y : X) → Some x ≡ Some y → x ≡ y
some_is x y e = cc e

none_is_not : {X : Type 0} (x : X) → None ≡ Some x → ⊥
none_is_not x e = absurd (cc e)

module _ {F : Type 0} (value : F → ℕ) where
  pub each_multiple : (ms : List Monomial) (P : Multiple → Type 0) (ks : List (Option (Kept F))) → All P (multiples_of value ms ks) → (i : ℕ) (k : Kept F) → get_or ks i None ≡ Some k → P (multiple_of value ms k)
  each_multiple ms P [] all i k is = absurd (none_is_not k is)
  each_multiple ms P (None ∷ ks) all zero k is = absurd (none_is_not k is)
  each_multiple ms P (None ∷ ks) all (suc i) k is = each_multiple ms P ks all i k is
  each_multiple ms P (Some h ∷ ks) all zero k is = subst (λ x. P (multiple_of value ms x)) (some_is h k is) (All-head P (multiple_of value ms h) (multiples_of value ms ks) all)
  each_multiple ms P (Some h ∷ ks) all (suc i) k is = each_multiple ms P ks (All-tail P (multiple_of value ms h) (multiples_of value ms ks) all) i k is

  pub all_multiples : (ms : List Monomial) (P : Multiple → Type 0) (ks : List (Option (Kept F))) → ((i : ℕ) (k : Kept F) → get_or ks i None ≡ Some k → P (multiple_of value ms k)) → All P (multiples_of value ms ks)
  all_multiples ms P [] each = All-nil P
  all_multiples ms P (None ∷ ks) each = all_multiples ms P ks (λ i k is. each (suc i) k is)
  all_multiples ms P (Some h ∷ ks) each = All-cons P (multiple_of value ms h) (multiples_of value ms ks) (each 0 h refl) (all_multiples ms P ks (λ i k is. each (suc i) k is))

  -- the multiple at a place
  pub kept_at : (p : ℕ) (cmp : Monomial → Monomial → Ordering) (ms : List Monomial) (ks : List (Option (Kept F))) (i : ℕ) (k : Kept F) → AreKept p value cmp ms ks → get_or ks i None ≡ Some k → IsKept p value cmp ms (Some k)
  kept_at p cmp ms ks i k kept is = subst (IsKept p value cmp ms) is (kept i)

  kept-more : (p : ℕ) (cmp : Monomial → Monomial → Ordering) (ms more : List Monomial) (o : Option (Kept F)) → IsKept p value cmp ms o → IsKept p value cmp (ms ++ more) o
  kept-more p cmp ms more None kept = tt
  kept-more p cmp ms more (Some k) kept = (numbers-more ms more k.terms.items kept.0, subst (IsOrdered p cmp 1024) (sym (terms_of-more value ms more k.terms.items kept.0)) kept.1)

  multiples-more : (p : ℕ) (cmp : Monomial → Monomial → Ordering) (ms more : List Monomial) (ks : List (Option (Kept F))) → AreKept p value cmp ms ks → multiples_of value (ms ++ more) ks ≡ multiples_of value ms ks
  multiples-more p cmp ms more [] kept = refl
  multiples-more p cmp ms more (None ∷ ks) kept = multiples-more p cmp ms more ks (λ i. kept (suc i))
  multiples-more p cmp ms more (Some k ∷ ks) kept =
      ap₂ (λ t r. (k.line, k.monomial, t) ∷ r) (terms_of-more value ms more k.terms.items (kept 0).0) (multiples-more p cmp ms more ks (λ i. kept (suc i)))

  pub kept_grown : (p : ℕ) (cmp : Monomial → Monomial → Ordering) (old new : List Monomial × Terms) (ks : List (Option (Kept F))) → Grows p old new → AreKept p value cmp old.0 ks → AreKept p value cmp new.0 ks
  kept_grown p cmp old new ks grows kept i = subst (λ ms. IsKept p value cmp ms (get_or ks i None)) (sym grows.more.1) (kept-more p cmp old.0 grows.more.0 (get_or ks i None) (kept i))

  pub multiples_grown : (p : ℕ) (cmp : Monomial → Monomial → Ordering) (old new : List Monomial × Terms) (ks : List (Option (Kept F))) → Grows p old new → AreKept p value cmp old.0 ks → multiples_of value new.0 ks ≡ multiples_of value old.0 ks
  multiples_grown p cmp old new ks grows kept = ap (λ ms. multiples_of value ms ks) grows.more.1 ∙ multiples-more p cmp old.0 grows.more.0 ks kept

  -- one multiple is put
  pub kept_put : (p : ℕ) (cmp : Monomial → Monomial → Ordering) (ms : List Monomial) (k : Kept F) (old new : List (Option (Kept F))) → PutsAtMost k old new → IsKept p value cmp ms (Some k) → AreKept p value cmp ms old → AreKept p value cmp ms new
  kept_put p cmp ms k old new puts this kept i =
      elim (puts i) as (λ _. IsKept p value cmp ms (get_or new i None)) [
        | inl here ↦ subst (IsKept p value cmp ms) (sym here) this
        | inr there ↦ subst (IsKept p value cmp ms) (sym there) (kept i)
      ]

  pub multiples_put : (p : ℕ) (ms : List Monomial) (gs : List Terms) (k : Kept F) (old new : List (Option (Kept F))) → PutsAtMost k old new → (k.line < length gs) × SamePolynomial p (terms_of value ms k.terms.items) (term_product 1 k.monomial (get_or gs k.line [])) → AreMultiplesOf p gs (multiples_of value ms old) → AreMultiplesOf p gs (multiples_of value ms new)
  multiples_put p ms gs k old new puts this all =
      let P = λ (x : Multiple). (x.0 < length gs) × SamePolynomial p x.2 (term_product 1 x.1 (get_or gs x.0 [])) in
      all_multiples ms P new
      (λ i h is.
      elim (puts i) as (λ _. P (multiple_of value ms h)) [
        | inl here ↦ subst (λ x. P (multiple_of value ms x)) (some_is k h (sym here ∙ is)) this
        | inr there ↦ each_multiple ms P old all i h (sym there ∙ is)
      ])

  -- those of later lines are dropped
  pub kept_before : (p : ℕ) (cmp : Monomial → Monomial → Ordering) (ms : List Monomial) (len : ℕ) (old new : List (Option (Kept F))) → KeepsBefore len old new → AreKept p value cmp ms old → AreKept p value cmp ms new
  kept_before p cmp ms len old new keeps kept i =
      elim (keeps i) as (λ _. IsKept p value cmp ms (get_or new i None)) [
        | inl none ↦ subst (IsKept p value cmp ms) (sym none) tt
        | inr there ↦ subst (IsKept p value cmp ms) (sym there.0) (kept i)
      ]

  pub multiples_before : (p : ℕ) (ms : List Monomial) (gs : List Terms) (len : ℕ) (old new : List (Option (Kept F))) → KeepsBefore len old new → AreMultiplesOf p gs (multiples_of value ms old) → AreMultiplesOf p (take len gs) (multiples_of value ms new)
  multiples_before p ms gs len old new keeps all =
      let P = λ (x : Multiple). (x.0 < length gs) × SamePolynomial p x.2 (term_product 1 x.1 (get_or gs x.0 [])) in
      let Q = λ (x : Multiple). (x.0 < length (take len gs)) × SamePolynomial p x.2 (term_product 1 x.1 (get_or (take len gs) x.0 [])) in
      all_multiples ms Q new
      (λ i h is.
      elim (keeps i) as (λ _. Q (multiple_of value ms h)) [
        | inl none ↦ absurd (none_is_not h (sym none ∙ is))
        | inr there ↦
            let was = each_multiple ms P old all i h (sym there.0 ∙ is) in
            let low : h.line < len = subst (λ o. IfSome o (λ k. k.line < len)) is there.1 in
            (omega (arith, was.0, low, length-take len gs), subst (λ q. SamePolynomial p (terms_of value ms h.terms.items) (term_product 1 h.monomial q)) (sym (get_or-take len gs h.line [] low)) was.1)
      ])

-- ---- a multiple that is subtracted

pub multiple_subtracted : (p c : ℕ) (m : Monomial) (q old new ts : Terms) → SamePolynomial p new (difference p old (scaled c ts)) → SamePolynomial p ts (term_product 1 m q) → SamePolynomial p new (difference p old (term_product c m q))
multiple_subtracted p c m q old new ts now same =
    let multiple : SamePolynomial p (scaled c ts) (term_product c m q) =
    SamePolynomial-from_weighted p (scaled c ts) (term_product c m q)
    (λ g.
    let W : ℕ = weighted (λ n. g (mono_mul m n)) q in
    let swap : weighted g (term_product 1 m q) * c ≡ c * W = ap (λ w. w * c) (weighted-term_product g 1 m q) ∙ (let e : 1 * W * c ≡ c * W = one_times W c in e) in
    ap (λ w. w % p) (weighted-term_product g c [] ts ∙ mul_comm c (weighted g ts)) ∙ times_alike p (weighted g ts) (weighted g (term_product 1 m q)) c (one_weighted p g ts (term_product 1 m q) same)
    ∙ ap (λ w. w % p) (swap ∙ sym (weighted-term_product g c m q))) in
    λ x. now x ∙ same_sums p old old (scaled (p - 1) (scaled c ts)) (scaled (p - 1) (term_product c m q)) (λ y. refl) (same_term_products p (p - 1) [] (scaled c ts) (term_product c m q) multiple) x
  where
    one_times : (w c : ℕ) → 1 * w * c ≡ c * w
    one_times w c = ap (λ x. x * c) (let e : 1 * w ≡ w = omega arith in e) ∙ mul_comm w c

-- ---- a multiple that is kept at the leading monomial

pub leading_same : (p : ℕ) (cmp : Monomial → Monomial → Ordering) (a b : Terms) (c : ℕ) (m : Monomial) → SamePolynomial p a b → IsLeading p cmp a c m → IsLeading p cmp b c m
leading_same p cmp a b c m same l = (sym (same m) ∙ l.0, l.1, λ n some off. l.2 n (λ none. some (sym (same n) ∙ none)) off)

number_leads : {F : Type 0} (value : F → ℕ) (p : ℕ) (cmp : Monomial → Monomial → Ordering) (laws : IsMonomialOrder cmp) (ms : List Monomial) (ts : List (ℕ × F)) (t : ℕ × F) → IsOrdered p cmp 1024 (terms_of value ms ts) → Some t ≡ slice_get ts 0 → IsLeading p cmp (terms_of value ms ts) (value t.1) (get_or ms t.0 [])
number_leads value p cmp laws ms [] t ordered is = absurd (cc is)
number_leads {F = F} value p cmp laws ms (u ∷ ts) t ordered is =
    subst (λ (x : ℕ × F). IsLeading p cmp (terms_of value ms (u ∷ ts)) (value x.1) (get_or ms x.0 [])) (sym (some_is t u is))
    (first_leads p cmp laws 1024 (value u.1, get_or ms u.0 []) (terms_of value ms ts) ordered)

module _ (p : ℕ) (prime : IsPrime p) (cmp : Monomial → Monomial → Ordering) (laws : IsMonomialOrder cmp) where
  -- its leading monomial is the one of that number
  pub held_leads : {F : Type 0} (value : F → ℕ) (gs : List Terms) (ms : List Monomial) (ks : List (Option (Kept F))) (slot line : ℕ) (m : Monomial) (ts : Terms) (c : ℕ) → AreKept p value cmp ms ks → IsHeldAt ks slot line m → IsMonomial m → IsLeading p cmp ts c (get_or ms slot []) → AreMultiplesOf p gs (multiples_of value ms ks) → LeadsMultiple p cmp gs ts line c m
  held_leads value gs ms ks slot line m ts c kept (k, at, same_line, same_monomial, (t, first, number)) monomial leads all =
      let P = λ (x : Multiple). (x.0 < length gs) × SamePolynomial p x.2 (term_product 1 x.1 (get_or gs x.0 [])) in
      let own = terms_of value ms k.terms.items in
      let whole = term_product 1 m (get_or gs line []) in
      let this = each_multiple value ms P ks all slot k at in
      let product : SamePolynomial p own whole =
      subst (λ q. SamePolynomial p own (term_product 1 q (get_or gs line []))) same_monomial
      (subst (λ n. SamePolynomial p own (term_product 1 k.monomial (get_or gs n []))) same_line this.1) in
      let top : IsLeading p cmp own (value t.1) (get_or ms t.0 []) = number_leads value p cmp laws ms k.terms.items t (kept_at value p cmp ms ks slot k kept at).1 first in (
        subst (λ n. n < length gs) same_line this.0,
        λ d n terms is lead.
            let times : IsLeading p cmp whole (mul_mod p 1 d) (mono_mul m n) = leading_of_multiple cmp laws p prime (get_or gs line []) terms 1 d m n monomial (omega arith) (omega (arith, prime.least)) lead in
            let same : get_or ms t.0 [] ≡ mono_mul m n =
            (one_leading cmp laws p whole (value t.1) (mul_mod p 1 d) (get_or ms t.0 []) (mono_mul m n) (leading_same p cmp own whole (value t.1) (get_or ms t.0 []) product top) times).1 in
            subst (IsLeading p cmp ts c) (ap (λ i. get_or ms i []) (sym number) ∙ same ∙ mono_mul_comm m n monomial is) leads,
      )

-- ---- places

pub push_none : {X : Type 0} (xs : List (Option X)) (i : ℕ) → get_or (xs ++ None ∷ []) i None ≡ get_or xs i None
push_none [] zero = refl
push_none [] (suc i) = refl
push_none (x ∷ xs) zero = refl
push_none (x ∷ xs) (suc i) = push_none xs i

abbrev pub IsBefore : {F : Type 0} → ℕ → List (Option (Kept F)) → List (Option (Kept F)) → ℕ → Type 0
IsBefore len old new i = (get_or new i None ≡ None) ⊎ ((get_or new i None ≡ get_or old i None) × IfSome (get_or new i None) (λ k. k.line < len))

pub record AreDropped {F : Type 0} (len slot : ℕ) (old new : List (Option (Kept F))) : Type 0 where
  pub long : length new ≡ length old
  pub done : (i : ℕ) → i < slot → IsBefore len old new i
  pub left : (i : ℕ) → slot ≤ i → get_or new i None ≡ get_or old i None

pub dropped_none : {F : Type 0} (len : ℕ) (ks : List (Option (Kept F))) → AreDropped len 0 ks ks
dropped_none len ks = record { long = refl; done = λ i h. absurd (omega (arith, h)); left = λ i h. refl }

pub dropped_kept : {F : Type 0} (len slot : ℕ) (old new : List (Option (Kept F))) → IfSome (get_or new slot None) (λ k. k.line < len) → AreDropped len slot old new → AreDropped len (slot + 1) old new
dropped_kept len slot old new before are =
    record {
      long = are.long;
      done = λ i h. elim (cases_eq i slot) as (λ _. IsBefore len old new i) [
        | inl same ↦ inr (are.left i (omega (arith, same)), subst (λ j. IfSome (get_or new j None) (λ k. k.line < len)) (sym same) before)
        | inr other ↦ are.done i (omega (arith, h, other))
      ];
      left = λ i h. are.left i (omega (arith, h));
    }

pub dropped_more : {F : Type 0} (len slot : ℕ) (old new : List (Option (Kept F))) → slot < length new → AreDropped len slot old new → AreDropped len (slot + 1) old (set new slot None)
dropped_more len slot old new inside are =
    record {
      long = length-set new slot None ∙ are.long;
      done = λ i h. elim (cases_eq i slot) as (λ _. IsBefore len old (set new slot None) i) [
        | inl same ↦ inl (ap (λ j. get_or (set new slot None) j None) same ∙ get_or-set_same new slot None None inside)
        | inr other ↦
            let is : get_or (set new slot None) i None ≡ get_or new i None = get_or-set_other new slot i None None other in
            elim (are.done i (omega (arith, h, other))) as (λ _. IsBefore len old (set new slot None) i) [
              | inl none ↦ inl (is ∙ none)
              | inr there ↦ inr (is ∙ there.0, subst (λ o. IfSome o (λ k. k.line < len)) (sym is) there.1)
            ]
      ];
      left = λ i h. get_or-set_other new slot i None None (λ same. omega (arith, h, same)) ∙ are.left i (omega (arith, h));
    }

pub dropped_all : {F : Type 0} (len slot : ℕ) (old new : List (Option (Kept F))) → length new ≤ slot → AreDropped len slot old new → KeepsBefore len old new
dropped_all len slot old new end are i =
    elim (cases_lt i slot) as (λ _. IsBefore len old new i) [
      | inl before ↦ are.done i before
      | inr after ↦ inl (get_or_past new i None (omega (arith, after, end)))
    ]

-- a multiple put at a place that is there
pub puts_at : {F : Type 0} (k : Kept F) (slot : ℕ) (old mid : List (Option (Kept F))) → slot < length mid → ((i : ℕ) → get_or mid i None ≡ get_or old i None) → PutsAtMost k old (set mid slot (Some k))
puts_at k slot old mid inside same i =
    elim (cases_eq i slot) as (λ _. (get_or (set mid slot (Some k)) i None ≡ Some k) ⊎ (get_or (set mid slot (Some k)) i None ≡ get_or old i None)) [
      | inl here ↦ inl (ap (λ j. get_or (set mid slot (Some k)) j None) here ∙ get_or-set_same mid slot (Some k) None inside)
      | inr other ↦ inr (get_or-set_other mid slot i (Some k) None other ∙ same i)
    ]

module _ {F : Type 0} (value : F → ℕ) (p : ℕ) (cmp : Monomial → Monomial → Ordering) where
  pub still_multiples : (gs : List Terms) (old new : List Monomial × Terms) (ks : List (Option (Kept F))) → Grows p old new → AreKept p value cmp old.0 ks → AreMultiplesOf p gs (multiples_of value old.0 ks) → AreMultiplesOf p gs (multiples_of value new.0 ks)
  still_multiples gs old new ks grows kept all = subst (AreMultiplesOf p gs) (sym (multiples_grown value p cmp old new ks grows kept)) all

  pub multiple_is : (gs : List Terms) (line : ℕ) (m : Monomial) (q : Terms) (ms : List Monomial) (k : Kept F) → k.line ≡ line → k.monomial ≡ m → SamePolynomial p (terms_of value ms k.terms.items) (term_product 1 m q) → IsLineOf gs line q → (k.line < length gs) × SamePolynomial p (terms_of value ms k.terms.items) (term_product 1 k.monomial (get_or gs k.line []))
  multiple_is gs line m q ms k same_line same_monomial product there = (
    subst (λ n. n < length gs) (sym same_line) there.0,
    subst (λ r. SamePolynomial p (terms_of value ms k.terms.items) (term_product 1 k.monomial r)) (sym (ap (λ n. get_or gs n []) same_line ∙ there.1))
        (subst (λ n. SamePolynomial p (terms_of value ms k.terms.items) (term_product 1 n q)) (sym same_monomial) product),
  )

module _ {F : Type 0} (value : F → ℕ) (p : ℕ) (cmp : Monomial → Monomial → Ordering) where
  pub kept_longer : (old new : List Monomial) (ks : List (Option (Kept F))) → IsLonger old new → AreKept p value cmp old ks → AreKept p value cmp new ks
  kept_longer old new ks longer kept = kept_grown value p cmp (old, []) (new, []) ks (record { more = longer; same = λ m. refl }) kept

  pub multiples_longer : (gs : List Terms) (old new : List Monomial) (ks : List (Option (Kept F))) → IsLonger old new → AreKept p value cmp old ks → AreMultiplesOf p gs (multiples_of value old ks) → AreMultiplesOf p gs (multiples_of value new ks)
  multiples_longer gs old new ks longer kept all = still_multiples value p cmp gs (old, []) (new, []) ks (record { more = longer; same = λ m. refl }) kept all

  pub held_subtracted : (gs : List Terms) (c line : ℕ) (m : Monomial) (q : Terms) (ms : List Monomial) (ks : List (Option (Kept F))) (slot : ℕ) (old new : Terms) → HasMultiple ks slot line m → ((k : Kept F) × (get_or ks slot None ≡ Some k) × SamePolynomial p new (difference p old (scaled c (terms_of value ms k.terms.items)))) → AreMultiplesOf p gs (multiples_of value ms ks) → IsLineOf gs line q → SamePolynomial p new (difference p old (term_product c m q))
  held_subtracted gs c line m q ms ks slot old new (h, at, same_line, same_monomial) (k, is, now) all there =
      let one : h ≡ k = some_is h k (sym at ∙ is) in
      let P = λ (x : Multiple). (x.0 < length gs) × SamePolynomial p x.2 (term_product 1 x.1 (get_or gs x.0 [])) in
      let product = (each_multiple value ms P ks all slot k is).1 in
      let monomial : k.monomial ≡ m = ap (λ (x : Kept F). x.monomial) (sym one) ∙ same_monomial in
      let line_is : get_or gs k.line [] ≡ q = ap (λ (x : Kept F). get_or gs x.line []) (sym one) ∙ ap (λ n. get_or gs n []) same_line ∙ there.1 in
      multiple_subtracted p c m q old new (terms_of value ms k.terms.items) now
      (subst (λ n. SamePolynomial p (terms_of value ms k.terms.items) (term_product 1 n q)) monomial
      (subst (λ r. SamePolynomial p (terms_of value ms k.terms.items) (term_product 1 k.monomial r)) line_is product))
