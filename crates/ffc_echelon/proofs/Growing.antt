-- An echelon form of some inputs with one input more.
use Rattle.std.proofs.Common.{◌≡◌, ℕ, ◌+◌, ◌*◌, ◌%◌, ◌<◌, ◌≤◌, List, [], ◌∷◌, ◌++◌, All, Option, Some, None, get_or, length, map, take, set, replicate, inl, inr, refl, sym, ap, ◌∙◌, subst, arith, mod-eq_of_lt}
use Rattle.std.specs.Prelude.{slice_get}
use Rattle.std.proofs.lemmas.Bool.{cases_eq}
use Rattle.std.proofs.lemmas.List.{length_push, length-set, length-replicate, take_all}
use Rattle.std.proofs.lemmas.List.Elements.{All-nil, All-cons, All-head, All-tail, All-push, All-pop, All-more}
use Rattle.std.proofs.lemmas.Option.{slice_get_within, same_Some, get_or_from_slice_get}
use Rattle.std.proofs.Math.Nat.{zero-mod}
use Rattle.std.proofs.lemmas.Nat.{mul-mod_second}
use Rattle.ffc_field.specs.Modular.{add_mod, mul_mod, IsPrime}
use Rattle.ffc_field.proofs.ModularLaws.{mul_mod-comm, mul_mod-zero}
use Rattle.ffc_echelon.specs.Vectors.{Coordinates, AreCoordinates, coordinate, IsBelow, dot}
use Rattle.ffc_echelon.specs.Forms.{Kept, Multiplier, LeadsBelow, IsRestOf, IsKeptOf, IsFormOf, IsReduced, IsSpanned, coordinates_of, leading_column, multiple_in}
use Rattle.ffc_echelon.specs.Progress.{scaled, IsRowOf, AreLeads, IsFormOfFirst}
use Rattle.ffc_echelon.proofs.CoordinateLemmas.{coordinate-here, coordinate-scaled, coordinates-scaled, below-scaled, products_nonzero}
use Rattle.ffc_echelon.proofs.Combining.{row_below, coordinates_of-at, held}
use Rattle.ffc_echelon.proofs.Congruences.{sum_alike, scale_alike}
use Rattle.ffc_echelon.proofs.Dots.{in_point, product_below, product_below-zero, multiples_zero, input_zero, rest_zero}
use Rattle.ffc_echelon.proofs.Places.{slice_get-push_old, slice_get-push_new, cases_push, slice_get-set_same, slice_get-set_other, slice_get-replicate}

-- ---- with no input

pub form_of_none : (p n : ℕ) (inputs : List Coordinates) → IsFormOfFirst p n inputs 0 [] (replicate n None)
form_of_none p n inputs = record {
  valid = All-nil (λ r. AreCoordinates p r.coordinates);
  leading = record {
    each = All-nil (λ r. LeadsBelow n r.coordinates);
    within = All-nil (λ r. IsBelow (n + 1) r.coordinates);
    apart = λ i j a b at other same. cc;
  };
  table = record {
    long = length-replicate n None;
    row = λ c j at. let none : None ≡ Some j = slice_get-replicate n c None (Some j) at in cc;
    lead = λ j c r at leads. cc;
  };
  short = omega arith;
  made = λ j r at. cc;
  spans = All-nil (IsSpanned p []);
  zeros = λ point rows. All-nil (λ v. dot p point v ≡ 0);
}

-- ---- with an input of which nothing is left

zeros_more : (p count : ℕ) (inputs : List Coordinates) (vector : Coordinates) (point : List ℕ) → slice_get inputs count ≡ Some vector → All (λ v. dot p point v ≡ 0) (take count inputs) → dot p point vector ≡ 0 → All (λ v. dot p point v ≡ 0) (take (count + 1) inputs)
zeros_more p count inputs vector point at before here =
    All-more (λ v. dot p point v ≡ 0) inputs count vector (slice_get_within inputs count vector at) before
    (subst (λ v. dot p point v ≡ 0) (sym (get_or_from_slice_get inputs count vector vector at)) here)

-- one more input is spanned
spans_more : (p count : ℕ) (inputs : List Coordinates) (kept : List Kept) (vector : Coordinates) → slice_get inputs count ≡ Some vector → All (IsSpanned p kept) (take count inputs) → IsSpanned p kept vector → All (IsSpanned p kept) (take (count + 1) inputs)
spans_more p count inputs kept vector at before here =
    All-more (IsSpanned p kept) inputs count vector (slice_get_within inputs count vector at) before
    (subst (IsSpanned p kept) (sym (get_or_from_slice_get inputs count vector vector at)) here)

pub form_keeps : (p n : ℕ) (inputs : List Coordinates) (count : ℕ) (kept : List Kept) (leads : List (Option ℕ)) (vector rest : Coordinates) (ms : List Multiplier) → slice_get inputs count ≡ Some vector → AreCoordinates p vector → IsBelow (n + 1) vector → IsRestOf p kept vector rest ms → rest ≡ [] → IsFormOfFirst p n inputs count kept leads → IsFormOfFirst p n inputs (count + 1) kept leads
form_keeps p n inputs count kept leads vector rest ms at valid below sum none form = record {
  valid = form.valid;
  leading = form.leading;
  table = form.table;
  short = omega (arith, form.short);
  made = form.made;
  spans = spans_more p count inputs kept vector at form.spans (ms, subst (λ v. IsRestOf p kept vector v ms) none sum);
  zeros = λ point rows.
      zeros_more p count inputs vector point at (form.zeros point rows)
      (input_zero p (n + 1) point kept ms vector rest valid below sum.sum
      (ap (λ v. product_below (in_point point) (coordinate v) (n + 1) % p) none ∙ ap (λ x. x % p) (product_below-zero (in_point point) (n + 1)) ∙ zero-mod p)
      (multiples_zero p (n + 1) point kept ms form.valid form.leading.within rows sum.there));
}

-- ---- with a row more

multiple_in-more : (kept : List Kept) (r : Kept) (ms : List Multiplier) (k : ℕ) → All (λ m. m.0 < length kept) ms → multiple_in (kept ++ r ∷ []) ms k ≡ multiple_in kept ms k
multiple_in-more kept r [] k there = refl
multiple_in-more kept r (m ∷ ms) k there =
    let found = row_below kept m.0 (All-head (λ m. m.0 < length kept) m ms there) in
    let same : coordinates_of (kept ++ r ∷ []) m.0 ≡ coordinates_of kept m.0 =
    coordinates_of-at (kept ++ r ∷ []) m.0 found.0 (slice_get-push_old kept r m.0 found.0 found.1)
    ∙ sym (coordinates_of-at kept m.0 found.0 found.1) in
    let one : m.1 * coordinate (coordinates_of (kept ++ r ∷ []) m.0) k ≡ m.1 * coordinate (coordinates_of kept m.0) k = ap (λ v. m.1 * coordinate v k) same in
    let rest = multiple_in-more kept r ms k (All-tail (λ m. m.0 < length kept) m ms there) in
    omega (arith, one, rest)

rest_more : (p : ℕ) (kept : List Kept) (r : Kept) (vector rest : Coordinates) (ms : List Multiplier) → IsRestOf p kept vector rest ms → IsRestOf p (kept ++ r ∷ []) vector rest ms
rest_more p kept r vector rest ms sum = record {
  there = λ i d within. let before = sum.there i d within in omega (arith, before, length_push kept r);
  sum = λ k. ap (λ m. add_mod p (coordinate rest k) m) (multiple_in-more kept r ms k sum.there) ∙ sum.sum k;
}

-- what rows span they span with a row more
spanned_more : (p : ℕ) (kept : List Kept) (r : Kept) (v : Coordinates) → IsSpanned p kept v → IsSpanned p (kept ++ r ∷ []) v
spanned_more p kept r v is = (is.0, rest_more p kept r v [] is.0 is.1)

-- a multiple of a row by the inverse of its scale is the rest that it was made of
rest_again : (p lead scale rest row : ℕ) → 1 < p → mul_mod p lead scale ≡ 1 → row ≡ mul_mod p scale rest → (lead * row) % p ≡ rest % p
rest_again p lead scale rest row two one scaled =
    ap (λ x. (lead * x) % p) scaled
    ∙ mul-mod_second lead (scale * rest) p
    ∙ ap (λ x. x % p) (let e : lead * (scale * rest) ≡ lead * scale * rest = omega arith in e)
    ∙ scale_alike p (lead * scale) 1 rest (one ∙ sym (mod-eq_of_lt two))
    ∙ ap (λ x. x % p) (let e : 1 * rest ≡ rest = omega arith in e)

-- an input is spanned by the row that is made of it and the rows that were subtracted from it
spanned_by_row : (p lead : ℕ) (kept : List Kept) (r : Kept) (vector rest : Coordinates) (ms : List Multiplier) → 1 < p → mul_mod p lead r.scale ≡ 1 → ((k : ℕ) → coordinate r.coordinates k ≡ mul_mod p r.scale (coordinate rest k)) → IsRestOf p kept vector rest ms → IsSpanned p (kept ++ r ∷ []) vector
spanned_by_row p lead kept r vector rest ms two one scaled sum = (
  (length kept, lead) ∷ ms,
  record {
    there = All-cons (λ m. m.0 < length (kept ++ r ∷ [])) (length kept, lead) ms (omega (arith, length_push kept r)) (rest_more p kept r vector rest ms sum).there;
    sum = λ k.
        let more = multiple_in (kept ++ r ∷ []) ms k in
        let new = coordinate (coordinates_of (kept ++ r ∷ []) (length kept)) k in
        let is : new ≡ coordinate r.coordinates k = ap (λ v. coordinate v k) (coordinates_of-at (kept ++ r ∷ []) (length kept) r (slice_get-push_new kept r)) in
        ap (λ x. x % p) (let e : 0 + (lead * new + more) ≡ lead * new + more = omega arith in e)
        ∙ sum_alike p (lead * new) (coordinate rest k) more more (rest_again p lead r.scale (coordinate rest k) new two one (is ∙ scaled k)) refl
        ∙ (rest_more p kept r vector rest ms sum).sum k;
  },
)

kept_more : (p : ℕ) (inputs : List Coordinates) (kept : List Kept) (r q : Kept) (j : ℕ) → IsKeptOf p inputs kept j q → IsKeptOf p inputs (kept ++ r ∷ []) j q
kept_more p inputs kept r q j made = record {
  input = made.input;
  at = made.at;
  before = made.before;
  rest = made.rest;
  sum = rest_more p kept r made.input made.rest q.multipliers made.sum;
  scaled = made.scaled;
}

-- the table with the new row
leads_more : (p n : ℕ) (kept : List Kept) (leads : List (Option ℕ)) (r : Kept) (c : ℕ) → AreLeads n kept leads → c < n → leading_column r.coordinates ≡ Some c → ((j : ℕ) (q : Kept) → slice_get kept j ≡ Some q → leading_column q.coordinates ≡ Some c → ⊥) → AreLeads n (kept ++ r ∷ []) (set leads c (Some (length kept)))
leads_more p n kept leads r c table within leading none = record {
  long = length-set leads c (Some (length kept)) ∙ table.long;
  row = λ d j at. elim (cases_eq d c) [
    | inl same ↦
        let number : length kept ≡ j = same_Some (length kept) j (same_Some (Some (length kept)) (Some j)
        (sym (slice_get-set_same leads c (Some (length kept)) (omega (arith, table.long))) ∙ ap (slice_get (set leads c (Some (length kept)))) (sym same) ∙ at)) in
        (r, subst (λ i. slice_get (kept ++ r ∷ []) i ≡ Some r) number (slice_get-push_new kept r), leading ∙ ap Some (sym same))
    | inr other ↦
        let old = table.row d j (sym (slice_get-set_other leads c d (Some (length kept)) other) ∙ at) in
        (old.0, slice_get-push_old kept r j old.0 old.1, old.2)
  ];
  lead = λ j d q at column. elim (cases_push kept r j q at) [
    | inl old ↦ elim (cases_eq d c) [
      | inl same ↦ absurd (none j q old (column ∙ ap Some same))
      | inr other ↦ slice_get-set_other leads c d (Some (length kept)) other ∙ table.lead j d q old column
    ]
    | inr new ↦
        let same : d ≡ c = same_Some d c (sym column ∙ ap (λ s. leading_column s.coordinates) (sym new.1) ∙ leading) in
        ap (slice_get (set leads c (Some (length kept)))) same
        ∙ slice_get-set_same leads c (Some (length kept)) (omega (arith, table.long))
        ∙ ap (λ i. Some (Some i)) (sym new.0)
  ];
}

led : (n : ℕ) (v : Coordinates) → LeadsBelow n v → (c : ℕ) × (leading_column v ≡ Some c)
led n [] below = absurd below
led n (e ∷ v) below = (e.0, refl)

-- rows with a table lead in different columns
apart_by_table : (n : ℕ) (kept : List Kept) (leads : List (Option ℕ)) → AreLeads n kept leads → All (λ r. LeadsBelow n r.coordinates) kept → (i j : ℕ) (a b : Kept) → slice_get kept i ≡ Some a → slice_get kept j ≡ Some b → leading_column a.coordinates ≡ leading_column b.coordinates → i ≡ j
apart_by_table n kept leads table each i j a b at other same =
    let first = led n a.coordinates (held (λ r. LeadsBelow n r.coordinates) kept i a each at) in
    let one = table.lead i first.0 a at first.1 in
    let two = table.lead j first.0 b other (sym same ∙ first.1) in
    same_Some i j (same_Some (Some i) (Some j) (sym one ∙ two))

pub record IsLead (n lead : ℕ) (rest : Coordinates) (c : ℕ) : Type 0 where
  pub column : leading_column rest ≡ Some c
  pub within : c < n
  pub value : coordinate rest c ≡ lead
  pub nonzero : lead ≡ 0 → ⊥

scaled_leads : (p n lead s c : ℕ) (rest : Coordinates) → mul_mod p lead s ≡ 1 → IsLead n lead rest c → LeadsBelow n (scaled p s rest) × (leading_column (scaled p s rest) ≡ Some c)
scaled_leads p n lead s c [] one is = cc
scaled_leads p n lead s c (e ∷ v) one is =
    let column : e.0 ≡ c = same_Some e.0 c is.column in
    let value : e.1 ≡ lead = sym (coordinate-here e v c column) ∙ is.value in
    ((omega (arith, column, is.within), mul_mod-comm p s e.1 ∙ ap (λ x. mul_mod p x s) value ∙ one), is.column)

-- a number with an inverse is not 0
scale_nonzero : (p lead s : ℕ) → mul_mod p lead s ≡ 1 → s ≡ 0 → ⊥
scale_nonzero p lead s one none =
    let zero : ◌≡◌ {A = ℕ} 0 1 = sym (ap (mul_mod p lead) none ∙ mul_mod-zero p lead) ∙ one in omega (arith, zero)

pub form_grows : (p n : ℕ) (inputs : List Coordinates) (count : ℕ) (kept : List Kept) (leads : List (Option ℕ)) (vector rest : Coordinates) (ms : List Multiplier) (lead c : ℕ) (r : Kept) → IsPrime p → slice_get inputs count ≡ Some vector → AreCoordinates p vector → IsBelow (n + 1) vector → IsRestOf p kept vector rest ms → AreCoordinates p rest → IsBelow (n + 1) rest → IsReduced kept rest → IsLead n lead rest c → IsRowOf p lead count rest ms r → IsFormOfFirst p n inputs count kept leads → IsFormOfFirst p n inputs (count + 1) (kept ++ r ∷ []) (set leads c (Some (length kept)))
form_grows p n inputs count kept leads vector rest ms lead c r prime at valid below sum rest_valid rest_below reduced is row form =
    let two : 1 < p = omega (arith, prime.least) in
    let s = r.scale in
    let led = scaled_leads p n lead s c rest row.inverse is in
    let r_leads : LeadsBelow n r.coordinates = subst (LeadsBelow n) (sym row.coordinates) led.0 in
    let r_column : leading_column r.coordinates ≡ Some c = ap leading_column row.coordinates ∙ led.1 in
    let r_below : IsBelow (n + 1) r.coordinates = subst (IsBelow (n + 1)) (sym row.coordinates) (below-scaled p s (n + 1) rest rest_below) in
    let r_valid : AreCoordinates p r.coordinates = subst (AreCoordinates p) (sym row.coordinates) (coordinates-scaled p s 0 rest (omega arith) (products_nonzero p s prime row.below (scale_nonzero p lead s row.inverse)) rest_valid) in
    let times = λ (k : ℕ). ap (λ v. coordinate v k) row.coordinates ∙ coordinate-scaled p s rest k in
    let none = λ (j : ℕ) (q : Kept) (there : slice_get kept j ≡ Some q) (column : leading_column q.coordinates ≡ Some c). is.nonzero (sym is.value ∙ reduced j c q there column) in
    let table = leads_more p n kept leads r c form.table is.within r_column none in
    let each = All-push (λ r. LeadsBelow n r.coordinates) kept r form.leading.each r_leads in
    record {
      valid = All-push (λ r. AreCoordinates p r.coordinates) kept r form.valid r_valid;
      leading = record {
        each = each;
        within = All-push (λ r. IsBelow (n + 1) r.coordinates) kept r form.leading.within r_below;
        apart = apart_by_table n (kept ++ r ∷ []) (set leads c (Some (length kept))) table each;
      };
      table = table;
      short = omega (arith, form.short, length_push kept r);
      made = λ j q there. elim (cases_push kept r j q there) [
        | inl old ↦ kept_more p inputs kept r q j (form.made j q old)
        | inr new ↦ subst (λ i. IsKeptOf p inputs (kept ++ r ∷ []) i q) (sym new.0) (subst (IsKeptOf p inputs (kept ++ r ∷ []) (length kept)) new.1 (record {
          input = vector;
          at = ap (slice_get inputs) row.input_is ∙ at;
          before = subst (All (λ m. m.0 < length kept)) (sym row.multipliers_are) sum.there;
          rest = rest;
          sum = subst (IsRestOf p (kept ++ r ∷ []) vector rest) (sym row.multipliers_are) (rest_more p kept r vector rest ms sum);
          scaled = times;
        }))
      ];
      spans = spans_more p count inputs (kept ++ r ∷ []) vector at
          (λ k d inside. spanned_more p kept r (get_or (take count inputs) k d) (form.spans k d inside))
          (spanned_by_row p lead kept r vector rest ms two row.inverse times sum);
      zeros = λ point rows.
          let parts = All-pop (λ r. dot p point r.coordinates ≡ 0) (kept ++ r ∷ []) kept (Some r) refl rows in
          zeros_more p count inputs vector point at (form.zeros point parts.0)
          (input_zero p (n + 1) point kept ms vector rest valid below sum.sum
          (rest_zero p (n + 1) point rest r.coordinates s lead two row.inverse times r_valid r_below parts.1)
          (multiples_zero p (n + 1) point kept ms form.valid form.leading.within parts.0 sum.there));
    }

-- ---- with all inputs

pub form_of_all : (p n count : ℕ) (inputs : List Coordinates) (kept : List Kept) (leads : List (Option ℕ)) → length inputs ≤ count → count ≤ length inputs → IsFormOfFirst p n inputs count kept leads → IsFormOf p n inputs (record { unknowns = n; inputs = length inputs; kept = kept })
form_of_all p n count inputs kept leads all small form = record {
  unknowns = refl;
  inputs_are = refl;
  few = omega (arith, form.short, small);
  valid = form.valid;
  leading = form.leading;
  kept = form.made;
  spans = subst (All (IsSpanned p kept)) (take_all count inputs all) form.spans;
  zeros = λ point rows. subst (All (λ v. dot p point v ≡ 0)) (take_all count inputs all) (form.zeros point rows);
}

-- ---- the first coordinate of a rest

-- a list that has an element begins with it
pub starts_with : {F : Type 0} (value : F → ℕ) (es : List (ℕ × F)) (e : ℕ × F) → 0 < length es → e ≡ get_or es 0 e → (v : Coordinates) × (map (λ e. (e.0, value e.1)) es ≡ (e.0, value e.1) ∷ v)
starts_with value [] e some is = absurd (omega arith)
starts_with {F} value (d ∷ es) e some is =
    (map (λ e. (e.0, value e.1)) es, ap (λ (d : ℕ × F). (d.0, value d.1) ∷ map (λ e. (e.0, value e.1)) es) (sym is))

pub first_leads : (p n : ℕ) (e : ℕ × ℕ) (v rest : Coordinates) → rest ≡ e ∷ v → AreCoordinates p rest → e.0 < n → IsLead n e.1 rest e.0
first_leads p n e v rest is valid within = record {
  column = ap leading_column is;
  within = within;
  value = ap (λ u. coordinate u e.0) is ∙ coordinate-here e v e.0 refl;
  nonzero = λ none. let some = (subst (AreCoordinates p) is valid).1 in omega (arith, none, some);
}
