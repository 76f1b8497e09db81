-- Products with a point, as sums over the columns.
use Rattle.std.proofs.Common.{◌≡◌, ℕ, zero, suc, ◌+◌, ◌*◌, ◌%◌, ◌<◌, ◌≤◌, List, [], ◌∷◌, All, length, get_or, inl, inr, refl, sym, ap, ◌∙◌, arith, mod-eq_of_lt}
use Rattle.std.specs.Prelude.{sum_by}
use Rattle.std.proofs.lemmas.Bool.{cases_eq}
use Rattle.std.proofs.lemmas.List.Sums.{sum_by-cons}
use Rattle.std.proofs.lemmas.List.Elements.{All-head, All-tail}
use Rattle.std.proofs.Math.Nat.{zero-mod, mod-mod}
use Rattle.ffc_field.specs.Modular.{add_mod, mul_mod}
use Rattle.ffc_echelon.specs.Vectors.{Coordinates, AreCoordinates, AreCoordinatesFrom, coordinate, IsBelow, dot}
use Rattle.ffc_echelon.specs.Forms.{Kept, Multiplier, coordinates_of, multiple_in}
use Rattle.ffc_echelon.proofs.CoordinateLemmas.{coordinate-here, coordinate-there, coordinate-before}
use Rattle.ffc_echelon.proofs.Congruences.{sum_alike, multiple_alike, scale_alike}
use Rattle.ffc_echelon.proofs.Combining.{row_below, coordinates_of-at, held}

-- the sum of f k times g k over the columns k below n
abbrev pub product_below : (ℕ → ℕ) → (ℕ → ℕ) → ℕ → ℕ
product_below g f zero = 0
product_below g f (suc n) = product_below g f n + f n * g n

pub product_below-same : (g f h : ℕ → ℕ) (n : ℕ) → ((k : ℕ) → k < n → f k ≡ h k) → product_below g f n ≡ product_below g h n
product_below-same g f h zero same = refl
product_below-same g f h (suc n) same =
    let before = product_below-same g f h n (λ k less. same k (omega arith)) in
    let here : f n * g n ≡ h n * g n = ap (λ x. x * g n) (same n (omega arith)) in
    omega (arith, before, here)

pub product_below-alike : (p : ℕ) (g f h : ℕ → ℕ) (n : ℕ) → ((k : ℕ) → f k % p ≡ h k % p) → product_below g f n % p ≡ product_below g h n % p
product_below-alike p g f h zero same = refl
product_below-alike p g f h (suc n) same =
    sum_alike p (product_below g f n) (product_below g h n) (f n * g n) (h n * g n)
    (product_below-alike p g f h n same) (scale_alike p (f n) (h n) (g n) (same n))

pub product_below-zero : (g : ℕ → ℕ) (n : ℕ) → product_below g (λ k. 0) n ≡ 0
product_below-zero g zero = refl
product_below-zero g (suc n) = let before = product_below-zero g n in omega (arith, before)

pub product_below-sum : (g f h : ℕ → ℕ) (n : ℕ) → product_below g (λ k. f k + h k) n ≡ product_below g f n + product_below g h n
product_below-sum g f h zero = refl
product_below-sum g f h (suc n) = let before = product_below-sum g f h n in omega (arith, before)

pub product_below-multiple : (g f : ℕ → ℕ) (c n : ℕ) → product_below g (λ k. c * f k) n ≡ c * product_below g f n
product_below-multiple g f c zero = omega arith
product_below-multiple g f c (suc n) =
    let before = product_below-multiple g f c n in omega (arith, before)

-- one coordinate
abbrev single : ℕ × ℕ → ℕ → ℕ
single e k = coordinate (e ∷ []) k

product_below-single_past : (g : ℕ → ℕ) (e : ℕ × ℕ) (n : ℕ) → n ≤ e.0 → product_below g (single e) n ≡ 0
product_below-single_past g e zero past = refl
product_below-single_past g e (suc n) past =
    let before = product_below-single_past g e n (omega arith) in
    let none : single e n * g n ≡ 0 = ap (λ x. x * g n) (coordinate-there e [] n (λ same. omega arith)) ∙ omega arith in
    omega (arith, before, none)

product_below-single : (g : ℕ → ℕ) (e : ℕ × ℕ) (n : ℕ) → e.0 < n → product_below g (single e) n ≡ e.1 * g e.0
product_below-single g e zero within = absurd (omega arith)
product_below-single g e (suc n) within = elim (cases_eq e.0 n) [
  | inl same ↦
      let before = product_below-single_past g e n (omega arith) in
      let here : single e n * g n ≡ e.1 * g e.0 = ap (λ x. x * g n) (coordinate-here e [] n same) ∙ ap (λ k. e.1 * g k) (sym same) in
      omega (arith, before, here)
  | inr other ↦
      let before = product_below-single g e n (omega (arith, other)) in
      let none : single e n * g n ≡ 0 = ap (λ x. x * g n) (coordinate-there e [] n other) ∙ omega arith in
      omega (arith, before, none)
]

-- a vector is its first coordinate and the others
coordinate-split : (p low : ℕ) (e : ℕ × ℕ) (v : Coordinates) (k : ℕ) → AreCoordinatesFrom p low (e ∷ v) → coordinate (e ∷ v) k ≡ single e k + coordinate v k
coordinate-split p low e v k valid = elim (cases_eq e.0 k) [
  | inl same ↦
      let none = coordinate-before p (suc e.0) v k valid.3 (omega arith) in
      let whole = coordinate-here e v k same in
      let one = coordinate-here e [] k same in
      omega (arith, none, whole, one)
  | inr other ↦
      let whole = coordinate-there e v k other in
      let one : single e k ≡ 0 = coordinate-there e [] k other in
      omega (arith, whole, one)
]

pub sum_by_product_below : (p low n : ℕ) (g : ℕ → ℕ) (v : Coordinates) → AreCoordinatesFrom p low v → IsBelow n v → sum_by (λ e. e.1 * g e.0) v ≡ product_below g (coordinate v) n
sum_by_product_below p low n g [] valid below = sym (product_below-zero g n)
sum_by_product_below p low n g (e ∷ v) valid below =
    sum_by-cons (λ e. e.1 * g e.0) e v
    ∙ (let rest = sum_by_product_below p (suc e.0) n g v valid.3 (All-tail (λ e. e.0 < n) e v below) in
    let one = product_below-single g e n (All-head (λ e. e.0 < n) e v below) in
    let whole = product_below-same g (coordinate (e ∷ v)) (λ k. single e k + coordinate v k) n (λ k less. coordinate-split p low e v k valid) in
    let parts = product_below-sum g (single e) (coordinate v) n in
    omega (arith, rest, one, whole, parts))

-- the coordinate of a point
abbrev pub in_point : List ℕ → ℕ → ℕ
in_point point k = get_or point k 0

pub dot_product_below : (p n : ℕ) (point : List ℕ) (v : Coordinates) → AreCoordinates p v → IsBelow n v → dot p point v ≡ product_below (in_point point) (coordinate v) n % p
dot_product_below p n point v valid below = ap (λ x. x % p) (sum_by_product_below p 0 n (in_point point) v valid below)

-- where kept rows are 0, so are the sums of their multiples
pub multiples_zero : (p n : ℕ) (point : List ℕ) (kept : List Kept) (ms : List Multiplier) → All (λ r. AreCoordinates p r.coordinates) kept → All (λ r. IsBelow n r.coordinates) kept → All (λ r. dot p point r.coordinates ≡ 0) kept → All (λ m. m.0 < length kept) ms → product_below (in_point point) (multiple_in kept ms) n % p ≡ 0
multiples_zero p n point kept [] valid below zeros there =
    ap (λ x. x % p) (product_below-zero (in_point point) n) ∙ zero-mod p
multiples_zero p n point kept (m ∷ ms) valid below zeros there =
    let found = row_below kept m.0 (All-head (λ m. m.0 < length kept) m ms there) in
    let r = found.0 in
    let row = coordinate (coordinates_of kept m.0) in
    let rest = multiples_zero p n point kept ms valid below zeros (All-tail (λ m. m.0 < length kept) m ms there) in
    let none : product_below (in_point point) row n % p ≡ 0 =
    ap (λ v. product_below (in_point point) (coordinate v) n % p) (coordinates_of-at kept m.0 r found.1)
    ∙ sym (dot_product_below p n point r.coordinates (held (λ r. AreCoordinates p r.coordinates) kept m.0 r valid found.1) (held (λ r. IsBelow n r.coordinates) kept m.0 r below found.1))
    ∙ held (λ r. dot p point r.coordinates ≡ 0) kept m.0 r zeros found.1 in
    ap (λ x. x % p) (product_below-sum (in_point point) (λ k. m.1 * row k) (multiple_in kept ms) n)
    ∙ sum_alike p (product_below (in_point point) (λ k. m.1 * row k) n) 0 (product_below (in_point point) (multiple_in kept ms) n) 0
    (ap (λ x. x % p) (product_below-multiple (in_point point) row m.1 n)
    ∙ multiple_alike p m.1 (product_below (in_point point) row n) 0 (none ∙ sym (zero-mod p))
    ∙ ap (λ x. x % p) (let e : m.1 * 0 ≡ 0 = omega arith in e))
    (rest ∙ sym (zero-mod p))
    ∙ zero-mod p

-- an input of which a rest and multiples of kept rows are left is 0 where these are
pub input_zero : (p n : ℕ) (point : List ℕ) (kept : List Kept) (ms : List Multiplier) (vector rest : Coordinates) → AreCoordinates p vector → IsBelow n vector → ((k : ℕ) → add_mod p (coordinate rest k) (multiple_in kept ms k) ≡ coordinate vector k % p) → product_below (in_point point) (coordinate rest) n % p ≡ 0 → product_below (in_point point) (multiple_in kept ms) n % p ≡ 0 → dot p point vector ≡ 0
input_zero p n point kept ms vector rest valid below sum none zeros =
    dot_product_below p n point vector valid below
    ∙ product_below-alike p (in_point point) (coordinate vector) (λ k. coordinate rest k + multiple_in kept ms k) n (λ k. sym (sum k))
    ∙ ap (λ x. x % p) (product_below-sum (in_point point) (coordinate rest) (multiple_in kept ms) n)
    ∙ sum_alike p (product_below (in_point point) (coordinate rest) n) 0 (product_below (in_point point) (multiple_in kept ms) n) 0
    (none ∙ sym (zero-mod p)) (zeros ∙ sym (zero-mod p))
    ∙ zero-mod p

-- a rest is 0 where a row is that is a multiple of it by a scale with an inverse
pub rest_zero : (p n : ℕ) (point : List ℕ) (rest row : Coordinates) (scale inverse : ℕ) → 1 < p → mul_mod p inverse scale ≡ 1 → ((k : ℕ) → coordinate row k ≡ mul_mod p scale (coordinate rest k)) → AreCoordinates p row → IsBelow n row → dot p point row ≡ 0 → product_below (in_point point) (coordinate rest) n % p ≡ 0
rest_zero p n point rest row scale inverse two one scaled valid below none_there =
    let whole = product_below (in_point point) (coordinate rest) n in
    let same : product_below (in_point point) (coordinate row) n % p ≡ (scale * whole) % p =
    product_below-alike p (in_point point) (coordinate row) (λ k. scale * coordinate rest k) n (λ k. ap (λ x. x % p) (scaled k) ∙ mod-mod (scale * coordinate rest k) p)
    ∙ ap (λ x. x % p) (product_below-multiple (in_point point) (coordinate rest) scale n) in
    let none : (scale * whole) % p ≡ 0 = sym same ∙ sym (dot_product_below p n point row valid below) ∙ none_there in
    ap (λ x. x % p) (let e : whole ≡ 1 * whole = omega arith in e)
    ∙ scale_alike p 1 (inverse * scale) whole (mod-eq_of_lt two ∙ sym one)
    ∙ ap (λ x. x % p) (let e : inverse * scale * whole ≡ inverse * (scale * whole) = omega arith in e)
    ∙ multiple_alike p inverse (scale * whole) 0 (none ∙ sym (zero-mod p))
    ∙ ap (λ x. x % p) (let e : inverse * 0 ≡ 0 = omega arith in e)
    ∙ zero-mod p
