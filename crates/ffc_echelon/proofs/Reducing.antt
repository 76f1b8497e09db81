-- A reduction, column by column.
use Rattle.std.proofs.Common.{◌≡◌, ℕ, ◌+◌, ◌-◌, ◌*◌, ◌%◌, ◌<◌, ◌≤◌, List, [], ◌∷◌, ◌++◌, All, Some, length, get_or, inl, inr, refl, sym, ap, ◌∙◌, subst, arith}
use Rattle.std.specs.Prelude.{slice_get}
use Rattle.std.proofs.lemmas.Bool.{cases_eq}
use Rattle.std.proofs.lemmas.Option.{slice_get_within, same_Some}
use Rattle.std.proofs.lemmas.List.Elements.{All-nil, All-push}
use Rattle.std.proofs.Math.Nat.{mod-mod, zero-mod}
use Rattle.ffc_field.specs.Modular.{add_mod, mul_mod, neg_mod}
use Rattle.ffc_field.proofs.ModularLaws.{add_mod-neg, mul_mod-zero}
use Rattle.ffc_echelon.specs.Vectors.{Coordinates, AreCoordinates, coordinate, IsBelow}
use Rattle.ffc_echelon.specs.Forms.{Kept, Multiplier, AreLeading, LeadsBelow, IsRestOf, IsReduced, coordinates_of, leading_column, multiple_in}
use Rattle.ffc_echelon.specs.Buffers.{with_multiple}
use Rattle.ffc_echelon.proofs.Buffers.{get_or-with_multiple}
use Rattle.ffc_echelon.proofs.CoordinateLemmas.{coordinate-here, coordinate-before}
use Rattle.ffc_echelon.proofs.Combining.{coordinates_of-at, held}
use Rattle.ffc_echelon.proofs.Congruences.{moved}

-- the buffer and the multiples have the sum `vector`, and no row leads in an earlier column in which the buffer is not 0
pub record IsReducedBelow (p : ℕ) (kept : List Kept) (vector : Coordinates) (column : ℕ) (buffer : List ℕ) (ms : List Multiplier) : Type 0 where
  pub there : All (λ m. m.0 < length kept) ms
  pub sum : (k : ℕ) → add_mod p (get_or buffer k 0) (multiple_in kept ms k) ≡ coordinate vector k % p
  pub cleared : (j c : ℕ) (r : Kept) → slice_get kept j ≡ Some r → leading_column r.coordinates ≡ Some c → c < column → get_or buffer c 0 ≡ 0

-- where nothing is to be subtracted
pub column_passed : (p : ℕ) (kept : List Kept) (vector : Coordinates) (column : ℕ) (buffer : List ℕ) (ms : List Multiplier) → ((j : ℕ) (r : Kept) → slice_get kept j ≡ Some r → leading_column r.coordinates ≡ Some column → get_or buffer column 0 ≡ 0) → IsReducedBelow p kept vector column buffer ms → IsReducedBelow p kept vector (column + 1) buffer ms
column_passed p kept vector column buffer ms none h = record {
  there = h.there;
  sum = h.sum;
  cleared = λ j c r at leads less. elim (cases_eq c column) [
    | inl same ↦ ap (λ k. get_or buffer k 0) same ∙ none j r at (leads ∙ ap Some same)
    | inr other ↦ h.cleared j c r at leads (omega (arith, less, other))
  ];
}

pub multiple_in-push : (kept : List Kept) (ms : List Multiplier) (m : Multiplier) (k : ℕ) → multiple_in kept (ms ++ m ∷ []) k ≡ multiple_in kept ms k + m.1 * coordinate (coordinates_of kept m.0) k
multiple_in-push kept [] m k = omega arith
multiple_in-push kept (l ∷ ms) m k = let rest = multiple_in-push kept ms m k in omega (arith, rest)

-- a row that leads in a column has 1 there, and no coordinate before
pub lead_one : (n c k : ℕ) (v : Coordinates) → leading_column v ≡ Some c → LeadsBelow n v → k ≡ c → coordinate v k ≡ 1
lead_one n c k [] leads below same = cc
lead_one n c k (e ∷ v) leads below same = coordinate-here e v k (same_Some e.0 c leads ∙ sym same) ∙ below.1

pub none_before_lead : (p c k : ℕ) (v : Coordinates) → AreCoordinates p v → leading_column v ≡ Some c → k < c → coordinate v k ≡ 0
none_before_lead p c k [] valid leads less = refl
none_before_lead p c k (e ∷ v) valid leads less =
    let first : e.0 ≡ c = same_Some e.0 c leads in
    coordinate-before p e.0 (e ∷ v) k (omega arith, valid.1, valid.2, valid.3) (omega (arith, first, less))

-- x less x
gone : (p x : ℕ) → x < p → add_mod p x (mul_mod p (neg_mod p x) 1) ≡ 0
gone p x below =
    ap (add_mod p x) (ap (λ n. n % p) (let one : neg_mod p x * 1 ≡ neg_mod p x = omega arith in one) ∙ mod-mod (p - x) p)
    ∙ add_mod-neg p x (omega arith)

nothing : (p c : ℕ) → add_mod p 0 (mul_mod p c 0) ≡ 0
nothing p c = ap (add_mod p 0) (mul_mod-zero p c) ∙ zero-mod p

-- a row subtracted in the column in which it leads
pub column_cleared : (p n : ℕ) (kept : List Kept) (vector : Coordinates) (column j x : ℕ) (r : Kept) (buffer : List ℕ) (ms : List Multiplier) → 1 < p → ((k : ℕ) → get_or buffer k 0 < p) → slice_get kept j ≡ Some r → leading_column r.coordinates ≡ Some column → LeadsBelow n r.coordinates → AreCoordinates p r.coordinates → IsBelow (length buffer) r.coordinates → x ≡ get_or buffer column 0 → IsReducedBelow p kept vector column buffer ms → IsReducedBelow p kept vector (column + 1) (with_multiple p (neg_mod p x) r.coordinates buffer) (ms ++ (j, x) ∷ [])
column_cleared p n kept vector column j x r buffer ms two below at leads one valid within is h =
    let read = λ (k : ℕ). get_or-with_multiple p (neg_mod p x) 0 r.coordinates buffer k valid within (below k) in
    let x_below : x < p = subst (λ y. y < p) (sym is) (below column) in
    record {
      there = All-push (λ m. m.0 < length kept) ms (j, x) h.there (slice_get_within kept j r at);
      sum = λ k.
          let row = coordinate r.coordinates k in
          ap (λ y. (y + multiple_in kept (ms ++ (j, x) ∷ []) k) % p) (read k)
          ∙ ap (λ m. (add_mod p (get_or buffer k 0) (mul_mod p (neg_mod p x) row) + m) % p)
          (multiple_in-push kept ms (j, x) k ∙ ap (λ v. multiple_in kept ms k + x * coordinate v k) (coordinates_of-at kept j r at))
          ∙ moved p (get_or buffer k 0) x row (multiple_in kept ms k) (omega arith)
          ∙ h.sum k;
      cleared = λ i c q q_at q_leads less. elim (cases_eq c column) [
        | inl same ↦
            read c
            ∙ ap (λ k. add_mod p (get_or buffer k 0) (mul_mod p (neg_mod p x) (coordinate r.coordinates c))) same
            ∙ ap (λ y. add_mod p y (mul_mod p (neg_mod p x) (coordinate r.coordinates c))) (sym is)
            ∙ ap (λ a. add_mod p x (mul_mod p (neg_mod p x) a)) (lead_one n column c r.coordinates leads one same)
            ∙ gone p x x_below
        | inr other ↦
            read c
            ∙ ap (λ y. add_mod p y (mul_mod p (neg_mod p x) (coordinate r.coordinates c))) (h.cleared i c q q_at q_leads (omega (arith, less, other)))
            ∙ ap (λ a. add_mod p 0 (mul_mod p (neg_mod p x) a)) (none_before_lead p column c r.coordinates valid leads (omega (arith, less, other)))
            ∙ nothing p (neg_mod p x)
      ];
    }

-- nothing is left where it began
pub reduction_begins : (p : ℕ) (kept : List Kept) (vector : Coordinates) (buffer : List ℕ) → ((k : ℕ) → get_or buffer k 0 ≡ coordinate vector k) → IsReducedBelow p kept vector 0 buffer []
reduction_begins p kept vector buffer same = record {
  there = All-nil (λ m. m.0 < length kept);
  sum = λ k. ap (λ n. n % p) (let none : get_or buffer k 0 + 0 ≡ get_or buffer k 0 = omega arith in none ∙ same k);
  cleared = λ j c r at leads less. absurd (omega arith);
}

-- the column in which a row leads is that of an unknown
pub lead_below : (n c : ℕ) (v : Coordinates) → LeadsBelow n v → leading_column v ≡ Some c → c < n
lead_below n c [] below leads = absurd below
lead_below n c (e ∷ v) below leads = let first : e.0 ≡ c = same_Some e.0 c leads in omega (arith, first, below.0)

pub rest_is_reduced : (p n : ℕ) (kept : List Kept) (vector rest : Coordinates) (column : ℕ) (buffer : List ℕ) (ms : List Multiplier) → AreLeading n kept → n ≤ column → ((k : ℕ) → coordinate rest k ≡ get_or buffer k 0) → IsReducedBelow p kept vector column buffer ms → IsReduced kept rest
rest_is_reduced p n kept vector rest column buffer ms leading all same h j c r at leads =
    same c
    ∙ h.cleared j c r at leads (let less : c < n = lead_below n c r.coordinates (held (λ r. LeadsBelow n r.coordinates) kept j r leading.each at) leads in omega arith)

pub rest_of_reduction : (p : ℕ) (kept : List Kept) (vector rest : Coordinates) (column : ℕ) (buffer : List ℕ) (ms : List Multiplier) → ((k : ℕ) → coordinate rest k ≡ get_or buffer k 0) → IsReducedBelow p kept vector column buffer ms → IsRestOf p kept vector rest ms
rest_of_reduction p kept vector rest column buffer ms same h = record {
  there = h.there;
  sum = λ k. ap (λ y. add_mod p y (multiple_in kept ms k)) (same k) ∙ h.sum k;
}
