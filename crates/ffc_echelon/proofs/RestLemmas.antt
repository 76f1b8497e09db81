-- What elimination leaves of each vector in turn, and where it is 0.
use Rattle.std.proofs.Common.{◌≡◌, ◌≢◌, ℕ, zero, suc, ◌+◌, ◌*◌, ◌%◌, ◌<◌, List, [], ◌∷◌, ◌++◌, Some, All, length, take, slice_get, refl, sym, ap, ◌∙◌, subst, arith}
use Rattle.std.proofs.Math.Nat.{zero-mod, mod-mod}
use Rattle.std.proofs.lemmas.List.Elements.{All-nil, All-cons, All-head, All-tail}
use Rattle.std.proofs.lemmas.Option.{none-some, same_Some}
use Rattle.ffc_field.specs.Modular.{add_mod}
use Rattle.ffc_echelon.specs.Forms.{Form, Kept, Multiplier, IsRestOf, IsAvoided, IsFormOf, IsKeptOf, coordinates_of, multiple_in}
use Rattle.ffc_echelon.specs.Vectors.{Coordinates, AreCoordinates, IsBelow, coordinate, dot}
use Rattle.ffc_echelon.proofs.Combining.{row_below, coordinates_of-at, held}
use Rattle.ffc_echelon.proofs.Congruences.{sum_alike, multiple_alike}
use Rattle.ffc_echelon.proofs.Dots.{product_below, product_below-alike, product_below-zero, product_below-sum, product_below-multiple, in_point, dot_product_below}
use Rattle.ffc_echelon.specs.Rests.{IsAvoidedRest, AreRests}

pub rests_more : (p : ℕ) (form : Form) (vectors rests : List Coordinates) (k : ℕ) (v r : Coordinates) → slice_get vectors k ≡ Some v → AreRests p form (take k vectors) rests → IsAvoidedRest p form v r → AreRests p form (take (suc k) vectors) (rests ++ r ∷ [])
rests_more p form [] rests k v r at before here = absurd (none-some v at)
rests_more p form (w ∷ vectors) [] zero v r at before here = (subst (λ x. IsAvoidedRest p form x r) (sym (same_Some w v at)) here, tt)
rests_more p form (w ∷ vectors) (s ∷ rests) zero v r at before here = absurd before
rests_more p form (w ∷ vectors) [] (suc k) v r at before here = absurd before
rests_more p form (w ∷ vectors) (s ∷ rests) (suc k) v r at before here = (before.0, rests_more p form vectors rests k v r at before.1 here)

pub length_rests : (p : ℕ) (form : Form) (vectors rests : List Coordinates) → AreRests p form vectors rests → length rests ≡ length vectors
length_rests p form [] [] are = refl
length_rests p form [] (r ∷ rests) are = absurd are
length_rests p form (v ∷ vectors) [] are = absurd are
length_rests p form (v ∷ vectors) (r ∷ rests) are = ap suc (length_rests p form vectors rests are.1)

pub avoided_rests : (p : ℕ) (form : Form) (vectors rests : List Coordinates) → AreRests p form vectors rests → All (IsAvoided form) rests
avoided_rests p form [] [] are = All-nil (IsAvoided form)
avoided_rests p form [] (r ∷ rests) are = absurd are
avoided_rests p form (v ∷ vectors) [] are = absurd are
avoided_rests p form (v ∷ vectors) (r ∷ rests) are = All-cons (IsAvoided form) r rests are.0.avoided (avoided_rests p form vectors rests are.1)

-- a point at which an echelon form's inputs are 0
module _ (p n : ℕ) (point : List ℕ) (inputs : List Coordinates) (kept : List Kept) (valid : All (AreCoordinates p) inputs) (below : All (IsBelow n) inputs)
    (zeros : All (λ v. dot p point v ≡ 0) inputs) (made : (j : ℕ) (r : Kept) → slice_get kept j ≡ Some r → IsKeptOf p inputs kept j r) where
  -- where these rows are 0, so are the sums of their multiples
  multiples_vanish : (bound : ℕ) (ms : List Multiplier) → ((j : ℕ) (r : Kept) → j < bound → slice_get kept j ≡ Some r → product_below (in_point point) (coordinate r.coordinates) n % p ≡ 0)
      → All (λ m. m.0 < bound) ms → All (λ m. m.0 < length kept) ms → product_below (in_point point) (multiple_in kept ms) n % p ≡ 0
  multiples_vanish bound [] rows first there = ap (λ x. x % p) (product_below-zero (in_point point) n) ∙ zero-mod p
  multiples_vanish bound (m ∷ ms) rows first there =
      let found = row_below kept m.0 (All-head (λ m. m.0 < length kept) m ms there) in
      let row = coordinate (coordinates_of kept m.0) in
      let rest = multiples_vanish bound ms rows (All-tail (λ m. m.0 < bound) m ms first) (All-tail (λ m. m.0 < length kept) m ms there) in
      let none : product_below (in_point point) row n % p ≡ 0 =
      ap (λ v. product_below (in_point point) (coordinate v) n % p) (coordinates_of-at kept m.0 found.0 found.1)
      ∙ rows m.0 found.0 (All-head (λ m. m.0 < bound) m ms first) found.1 in
      ap (λ x. x % p) (product_below-sum (in_point point) (λ k. m.1 * row k) (multiple_in kept ms) n)
      ∙ sum_alike p (product_below (in_point point) (λ k. m.1 * row k) n) 0 (product_below (in_point point) (multiple_in kept ms) n) 0
      (ap (λ x. x % p) (product_below-multiple (in_point point) row m.1 n)
      ∙ multiple_alike p m.1 (product_below (in_point point) row n) 0 (none ∙ sym (zero-mod p))
      ∙ ap (λ x. x % p) (let e : m.1 * 0 ≡ 0 = omega arith in e))
      (rest ∙ sym (zero-mod p))
      ∙ zero-mod p

  -- what is left where multiples that are 0 are subtracted has the same product
  rest_alike : (ms : List Multiplier) (vector rest : Coordinates) → AreCoordinates p vector → IsBelow n vector → ((k : ℕ) → add_mod p (coordinate rest k) (multiple_in kept ms k) ≡ coordinate vector k % p)
      → product_below (in_point point) (multiple_in kept ms) n % p ≡ 0 → product_below (in_point point) (coordinate rest) n % p ≡ dot p point vector
  rest_alike ms vector rest vector_valid vector_below sum none =
      let left = product_below (in_point point) (coordinate rest) n in
      let gone = product_below (in_point point) (multiple_in kept ms) n in
      sym (dot_product_below p n point vector vector_valid vector_below
      ∙ product_below-alike p (in_point point) (coordinate vector) (λ k. coordinate rest k + multiple_in kept ms k) n (λ k. sym (sum k))
      ∙ ap (λ x. x % p) (product_below-sum (in_point point) (coordinate rest) (multiple_in kept ms) n)
      ∙ sum_alike p left left gone 0 refl (none ∙ sym (zero-mod p))
      ∙ ap (λ x. x % p) (let e : left + 0 ≡ left = omega arith in e))

  row_vanishes : (bound j : ℕ) (r : Kept) → j < bound → slice_get kept j ≡ Some r → product_below (in_point point) (coordinate r.coordinates) n % p ≡ 0
  row_vanishes zero j r less at = absurd (omega arith)
  row_vanishes (suc bound) j r less at =
      let is = made j r at in
      let whole = product_below (in_point point) (coordinate is.rest) n in
      let none = multiples_vanish j r.multipliers (λ i s before there. row_vanishes bound i s (omega arith) there) is.before is.sum.there in
      let rest : whole % p ≡ 0 =
      rest_alike r.multipliers is.input is.rest (held (AreCoordinates p) inputs r.input is.input valid is.at) (held (IsBelow n) inputs r.input is.input below is.at) is.sum.sum none
      ∙ held (λ v. dot p point v ≡ 0) inputs r.input is.input zeros is.at in
      product_below-alike p (in_point point) (coordinate r.coordinates) (λ k. r.scale * coordinate is.rest k) n (λ k. ap (λ x. x % p) (is.scaled k) ∙ mod-mod (r.scale * coordinate is.rest k) p)
      ∙ ap (λ x. x % p) (product_below-multiple (in_point point) (coordinate is.rest) r.scale n)
      ∙ multiple_alike p r.scale whole 0 (rest ∙ sym (zero-mod p))
      ∙ ap (λ x. x % p) (let e : r.scale * 0 ≡ 0 = omega arith in e)
      ∙ zero-mod p

  -- a vector and its rest have the same product
  pub rest_same : (ms : List Multiplier) (vector rest : Coordinates) → AreCoordinates p vector → IsBelow n vector → AreCoordinates p rest → IsBelow n rest → IsRestOf p kept vector rest ms → dot p point rest ≡ dot p point vector
  rest_same ms vector rest vector_valid vector_below rest_valid rest_below is =
      dot_product_below p n point rest rest_valid rest_below
      ∙ rest_alike ms vector rest vector_valid vector_below is.sum
      (multiples_vanish (length kept) ms (λ j r before there. row_vanishes (length kept) j r before there) is.there is.there)

-- where no rest is 0, no vector is
pub apart_vectors : (p n : ℕ) (point : List ℕ) (form : Form) (inputs vectors rests : List Coordinates) → IsFormOf p n inputs form → All (AreCoordinates p) inputs → All (IsBelow (n + 1)) inputs → All (λ v. dot p point v ≡ 0) inputs
    → All (AreCoordinates p) vectors → All (IsBelow (n + 1)) vectors → AreRests p form vectors rests → All (λ v. dot p point v ≢ 0) rests → All (λ v. dot p point v ≢ 0) vectors
apart_vectors p n point form inputs [] rests is valid below zeros vectors_valid vectors_below are apart = All-nil (λ v. dot p point v ≢ 0)
apart_vectors p n point form inputs (v ∷ vectors) [] is valid below zeros vectors_valid vectors_below are apart = absurd are
apart_vectors p n point form inputs (v ∷ vectors) (r ∷ rests) is valid below zeros vectors_valid vectors_below are apart =
    let one = are.0 in
    let rest_below : IsBelow (n + 1) r = subst (λ m. IsBelow (m + 1) r) is.unknowns one.avoided.within in
    let same : dot p point r ≡ dot p point v =
    rest_same p (n + 1) point inputs form.kept valid below zeros is.kept one.multipliers v r (All-head (AreCoordinates p) v vectors vectors_valid) (All-head (IsBelow (n + 1)) v vectors vectors_below) one.valid rest_below one.rest_of in
    All-cons (λ v. dot p point v ≢ 0) v vectors (λ zero_there. All-head (λ v. dot p point v ≢ 0) r rests apart (same ∙ zero_there))
    (apart_vectors p n point form inputs vectors rests is valid below zeros (All-tail (AreCoordinates p) v vectors vectors_valid) (All-tail (IsBelow (n + 1)) v vectors vectors_below) are.1 (All-tail (λ v. dot p point v ≢ 0) r rests apart))
