-- Where sums of multiples of rows lead that lead in different columns.
use Rattle.std.proofs.Common.{◌≡◌, ◌≢◌, ◌⊎◌, ℕ, zero, suc, ◌+◌, ◌*◌, ◌%◌, ◌<◌, ◌≤◌, List, [], ◌∷◌, All, Some, None, length, get_or, replicate, inl, inr, refl, sym, ap, ◌∙◌, subst, arith, mod-eq_of_lt}
use Rattle.std.specs.Prelude.{slice_get, is_some, IsTrue, ◌↔◌, Option}
use Rattle.std.proofs.lemmas.Bool.{cases_eq, cases_lt, false≢true}
use Rattle.std.proofs.lemmas.List.{length-replicate}
use Rattle.std.proofs.lemmas.Option.{same_Some, slice_get_within}
use Rattle.std.proofs.Math.Nat.{zero-mod}
use Rattle.ffc_echelon.specs.Vectors.{Coordinates, AreCoordinates, coordinate, sum_in}
use Rattle.ffc_echelon.specs.Forms.{Kept, Multiplier, AreLeading, IsSpanned, LeadsBelow, LeadsIn, leading_column, multiple_in}
use Rattle.ffc_echelon.specs.Buffers.{with_multiple}
use Rattle.ffc_echelon.specs.Progress.{AreLeads}
use Rattle.ffc_echelon.proofs.Combining.{coordinates_in, held, sum_in-zeros, sum_in-with_multiple}
use Rattle.ffc_echelon.proofs.Congruences.{sum_alike, scale_alike}
use Rattle.ffc_echelon.proofs.CoordinateLemmas.{coordinate-here, coordinate-before}

-- ---- sums in a column

-- a sum without summands other than 0
sum_none : (p k : ℕ) (ws : List ℕ) (kept : List Kept) → ((i : ℕ) (u : Kept) → slice_get kept i ≡ Some u → (get_or ws i 0 * coordinate u.coordinates k) % p ≡ 0) → sum_in ws (coordinates_in kept) k % p ≡ 0
sum_none p k [] kept none = zero-mod p
sum_none p k (w ∷ ws) [] none = zero-mod p
sum_none p k (w ∷ ws) (u ∷ kept) none =
    sum_alike p (w * coordinate u.coordinates k) 0 (sum_in ws (coordinates_in kept) k) 0
    (none 0 u refl ∙ sym (zero-mod p))
    (sum_none p k ws kept (λ i v at. none (suc i) v at) ∙ sym (zero-mod p))
    ∙ zero-mod p

-- a sum with one summand other than 0
sum_one : (p k : ℕ) (ws : List ℕ) (kept : List Kept) (j : ℕ) (r : Kept) → slice_get kept j ≡ Some r → ((i : ℕ) (u : Kept) → slice_get kept i ≡ Some u → (i ≡ j → ⊥) → (get_or ws i 0 * coordinate u.coordinates k) % p ≡ 0) → sum_in ws (coordinates_in kept) k % p ≡ (get_or ws j 0 * coordinate r.coordinates k) % p
sum_one p k [] kept j r at none = ap (λ x. x % p) (let e : 0 ≡ 0 * coordinate r.coordinates k = omega arith in e)
sum_one p k (w ∷ ws) [] j r at none = cc
sum_one p k (w ∷ ws) (u ∷ kept) zero r at none =
    sum_alike p (w * coordinate u.coordinates k) (w * coordinate r.coordinates k) (sum_in ws (coordinates_in kept) k) 0
    (ap (λ (q : Kept). (w * coordinate q.coordinates k) % p) (same_Some u r at))
    (sum_none p k ws kept (λ i v there. none (suc i) v there (λ e. omega (arith, e))) ∙ sym (zero-mod p))
    ∙ ap (λ x. x % p) (let e : w * coordinate r.coordinates k + 0 ≡ w * coordinate r.coordinates k = omega arith in e)
sum_one p k (w ∷ ws) (u ∷ kept) (suc j) r at none =
    sum_alike p (w * coordinate u.coordinates k) 0 (sum_in ws (coordinates_in kept) k) (get_or ws j 0 * coordinate r.coordinates k)
    (none 0 u refl (λ e. omega (arith, e)) ∙ sym (zero-mod p))
    (sum_one p k ws kept j r at (λ i v there other. none (suc i) v there (λ e. other (omega (arith, e)))))
    ∙ ap (λ x. x % p) (let e : 0 + get_or ws j 0 * coordinate r.coordinates k ≡ get_or ws j 0 * coordinate r.coordinates k = omega arith in e)

-- ---- which rows lead in a column

leads_here : (v : Coordinates) (k : ℕ) → (leading_column v ≡ Some k) ⊎ (leading_column v ≡ Some k → ⊥)
leads_here [] k = inr (λ e. cc)
leads_here (e ∷ v) k = elim (cases_eq e.0 k) [
  | inl same ↦ inl (ap Some same)
  | inr other ↦ inr (λ e. other (same_Some _ _ e))
]

leader : (kept : List Kept) (k : ℕ) → LeadsIn kept k ⊎ ((j : ℕ) (r : Kept) → slice_get kept j ≡ Some r → leading_column r.coordinates ≡ Some k → ⊥)
leader [] k = inr (λ j r at e. cc)
leader (q ∷ kept) k = elim (leads_here q.coordinates k) [
  | inl here ↦ inl (0, q, refl, here)
  | inr other ↦ elim (leader kept k) [
    | inl found ↦ inl (suc found.0, found.1, found.2, found.3)
    | inr none ↦ inr (later q kept k other none)
  ]
]
  where
    later : (q : Kept) (kept : List Kept) (k : ℕ) → (leading_column q.coordinates ≡ Some k → ⊥)
        → ((j : ℕ) (r : Kept) → slice_get kept j ≡ Some r → leading_column r.coordinates ≡ Some k → ⊥)
        → (j : ℕ) (r : Kept) → slice_get (q ∷ kept) j ≡ Some r → leading_column r.coordinates ≡ Some k → ⊥
    later q kept k other none zero r at e = other (ap (λ (u : Kept). leading_column u.coordinates) (same_Some q r at) ∙ e)
    later q kept k other none (suc j) r at e = none j r at e

-- a row has its first coordinate in a column, where it is 1, and none before
pub record IsLed (p : ℕ) (v : Coordinates) (c : ℕ) : Type 0 where
  pub column : leading_column v ≡ Some c
  pub one : coordinate v c ≡ 1
  pub before : (k : ℕ) → k < c → coordinate v k ≡ 0

led_by_one : (p n : ℕ) (v : Coordinates) → AreCoordinates p v → LeadsBelow n v → (c : ℕ) × IsLed p v c
led_by_one p n [] valid below = absurd below
led_by_one p n (e ∷ v) valid below = (
  e.0,
  record {
    column = refl;
    one = coordinate-here e v e.0 refl ∙ below.1;
    before = λ k less. coordinate-before p e.0 (e ∷ v) k (omega arith, valid.1, valid.2, valid.3) less;
  },
)

-- ---- the weights of the rows

module _ (p n : ℕ) (kept : List Kept) (valid : All (λ r. AreCoordinates p r.coordinates) kept) (leading : AreLeading n kept) (h : ℕ → ℕ) (ws : List ℕ) (sum : (k : ℕ) → sum_in ws (coordinates_in kept) k % p ≡ h k % p) where
  row_led : (j : ℕ) (r : Kept) → slice_get kept j ≡ Some r → (c : ℕ) × IsLed p r.coordinates c
  row_led j r at =
      led_by_one p n r.coordinates (held (λ r. AreCoordinates p r.coordinates) kept j r valid at) (held (λ r. LeadsBelow n r.coordinates) kept j r leading.each at)

  -- rows that lead before a column have no weight
  abbrev NoneBefore : ℕ → Type 0
  NoneBefore k = (j c : ℕ) (r : Kept) → slice_get kept j ≡ Some r → leading_column r.coordinates ≡ Some c → c < k → get_or ws j 0 % p ≡ 0

  -- a row that does not lead in the column adds nothing there
  adds_nothing : (k : ℕ) → NoneBefore k → (i : ℕ) (u : Kept) → slice_get kept i ≡ Some u → (leading_column u.coordinates ≡ Some k → ⊥) → (get_or ws i 0 * coordinate u.coordinates k) % p ≡ 0
  adds_nothing k none i u at other = by_case (row_led i u at)
    where
      by_case : ((c : ℕ) × IsLed p u.coordinates c) → (get_or ws i 0 * coordinate u.coordinates k) % p ≡ 0
      by_case led = elim (cases_lt led.0 k) [
        | inl before ↦
            scale_alike p (get_or ws i 0) 0 (coordinate u.coordinates k) (none i led.0 u at led.1.column before ∙ sym (zero-mod p))
            ∙ ap (λ x. x % p) (let e : 0 * coordinate u.coordinates k ≡ 0 = omega arith in e) ∙ zero-mod p
        | inr past ↦
            let apart : led.0 ≡ k → ⊥ = λ e. other (led.1.column ∙ ap Some e) in
            ap (λ x. (get_or ws i 0 * x) % p) (led.1.before k (omega (arith, past, apart)))
            ∙ ap (λ x. x % p) (let e : get_or ws i 0 * 0 ≡ 0 = omega arith in e) ∙ zero-mod p
      ]

  -- where a row leads, the sum is its weight
  weight_is : (k : ℕ) → NoneBefore k → (j : ℕ) (r : Kept) → slice_get kept j ≡ Some r → leading_column r.coordinates ≡ Some k → get_or ws j 0 % p ≡ h k % p
  weight_is k none j r at leads =
      let led = row_led j r at in
      let one : coordinate r.coordinates k ≡ 1 = ap (coordinate r.coordinates) (same_Some k led.0 (sym leads ∙ led.1.column)) ∙ led.1.one in
      ap (λ x. x % p) (let e : get_or ws j 0 ≡ get_or ws j 0 * 1 = omega arith in e)
      ∙ ap (λ x. (get_or ws j 0 * x) % p) (sym one)
      ∙ sym (sum_one p k ws kept j r at (λ i u there apart. adds_nothing k none i u there (λ same. apart (leading.apart i j u r there at (same ∙ sym leads)))))
      ∙ sum k

  -- where the sum is 0 before a column, rows that lead before it have no weight
  none_before : (k : ℕ) → ((d : ℕ) → d < k → h d % p ≡ 0) → NoneBefore k
  none_before zero empty j c r at leads before = absurd (omega (arith, before))
  none_before (suc k) empty j c r at leads before =
      let earlier = none_before k (λ d less. empty d (omega arith)) in
      elim (cases_eq c k) [
        | inl same ↦ weight_is k earlier j r at (leads ∙ ap Some same) ∙ empty k (omega arith)
        | inr other ↦ earlier j c r at leads (omega (arith, before, other))
      ]

  -- the sum is 0 in a column in which no row leads, where it is 0 before it
  nothing_there : (k : ℕ) → ((d : ℕ) → d < k → h d % p ≡ 0) → ((j : ℕ) (r : Kept) → slice_get kept j ≡ Some r → leading_column r.coordinates ≡ Some k → ⊥) → h k % p ≡ 0
  nothing_there k empty none = sym (sum k) ∙ sum_none p k ws kept (λ i u at. adds_nothing k (none_before k empty) i u at (none i u at))

-- ---- the laws

-- the weights of a sum of multiples
weights_of : (p : ℕ) (kept : List Kept) (ms : List Multiplier) → All (λ m. m.0 < length kept) ms → (k : ℕ) → sum_in (with_multiple p 1 ms (replicate (length kept) 0)) (coordinates_in kept) k % p ≡ multiple_in kept ms k % p
weights_of p kept ms there k =
    let n = length kept in
    let long : length (replicate {A = ℕ} n 0) ≡ n = length-replicate n 0 in
    sum_in-with_multiple p 1 kept ms (replicate n 0) k (subst (λ j. All (λ m. m.0 < j) ms) (sym long) there) (omega (arith, long))
    ∙ ap (λ x. (x + 1 * multiple_in kept ms k) % p) (sum_in-zeros n (coordinates_in kept) k)
    ∙ ap (λ x. x % p) (let e : 0 + 1 * multiple_in kept ms k ≡ multiple_in kept ms k = omega arith in e)

-- a row leads in the first column in which a sum of multiples is not 0
pub sums_lead : (p n : ℕ) (kept : List Kept) (ms : List Multiplier) (c : ℕ) → All (λ r. AreCoordinates p r.coordinates) kept → AreLeading n kept → All (λ m. m.0 < length kept) ms
    → ((d : ℕ) → d < c → multiple_in kept ms d % p ≡ 0) → multiple_in kept ms c % p ≢ 0 → LeadsIn kept c
sums_lead p n kept ms c valid leading there before some = elim (leader kept c) [
  | inl found ↦ found
  | inr none ↦ absurd (some (nothing_there p n kept valid leading (multiple_in kept ms) (with_multiple p 1 ms (replicate (length kept) 0)) (weights_of p kept ms there) c before none))
]

-- a spanned vector leads where a row does
pub spanned_leads : (p n : ℕ) (kept : List Kept) (v : Coordinates) → All (λ r. AreCoordinates p r.coordinates) kept → AreLeading n kept → AreCoordinates p v → v ≢ [] → IsSpanned p kept v → (j : ℕ) × (r : Kept) × (slice_get kept j ≡ Some r) × (leading_column r.coordinates ≡ leading_column v)
spanned_leads p n kept [] valid leading coordinates some spanned = absurd (some refl)
spanned_leads p n kept (e ∷ v) valid leading coordinates some spanned =
    let same : (k : ℕ) → multiple_in kept spanned.0 k % p ≡ coordinate (e ∷ v) k % p = λ k.
    ap (λ x. x % p) (let s : multiple_in kept spanned.0 k ≡ 0 + multiple_in kept spanned.0 k = omega arith in s) ∙ spanned.1.sum k in
    sums_lead p n kept spanned.0 e.0 valid leading spanned.1.there
    (λ d less. same d ∙ ap (λ x. x % p) (coordinate-before p e.0 (e ∷ v) d (omega arith, coordinates.1, coordinates.2, coordinates.3) less) ∙ zero-mod p)
    (λ zero.
    let is : e.1 ≡ 0 = sym (mod-eq_of_lt coordinates.2) ∙ ap (λ x. x % p) (sym (coordinate-here e v e.0 refl)) ∙ sym (same e.0) ∙ zero in
    (let positive = coordinates.1 in omega (arith, is, positive)))

-- ---- the table says where rows lead

-- where the table has a row for a column, it leads there, and none does where it has not
pub leads_by_table : (n : ℕ) (kept : List Kept) (leads : List (Option ℕ)) (c : ℕ) (o : Option ℕ) → AreLeads n kept leads → slice_get leads c ≡ Some o → IsTrue (is_some o) ↔ LeadsIn kept c
leads_by_table n kept leads c None table at =
    (λ claimed. absurd (false≢true claimed), λ found. (let is = table.lead found.0 c found.1 found.2 found.3 in cc))
leads_by_table n kept leads c (Some j) table at =
    (λ claimed. (let row = table.row c j at in (j, row.0, row.1, row.2)), λ found. refl)

pub leads_past_table : (n : ℕ) (kept : List Kept) (leads : List (Option ℕ)) (c : ℕ) → AreLeads n kept leads → length leads ≤ c → LeadsIn kept c → ⊥
leads_past_table n kept leads c table past found =
    let inside = slice_get_within leads c (Some found.0) (table.lead found.0 c found.1 found.2 found.3) in omega (arith, inside)
