-- Combinations of vectors, and how multiples of kept rows become combinations of inputs.
use Rattle.std.proofs.Common.{◌≡◌, ℕ, zero, suc, ◌+◌, ◌-◌, ◌*◌, ◌%◌, ◌<◌, ◌≤◌, List, [], ◌∷◌, All, Some, length, map, get_or, set, take, replicate, refl, sym, ap, ap₂, ◌∙◌, subst, arith, mod-lt, length-take-le, zero-add, add-zero}
use Rattle.std.specs.Prelude.{slice_get}
use Rattle.std.proofs.lemmas.List.{length-set, length-replicate, get_or-take, take_all}
use Rattle.std.proofs.lemmas.Option.{slice_get_within, same_Some, get_or_from_slice_get}
use Rattle.std.proofs.lemmas.List.Elements.{All-head, All-tail}
use Rattle.std.proofs.Math.Nat.{mod-mod, zero-mod}
use Rattle.ffc_field.specs.Modular.{add_mod, mul_mod, neg_mod}
use Rattle.ffc_echelon.specs.Vectors.{Coordinates, coordinate, sum_in}
use Rattle.ffc_echelon.specs.Forms.{Kept, Multiplier, coordinates_of, multiple_in, IsKeptOf}
use Rattle.ffc_echelon.specs.Buffers.{raised, with_multiple}
use Rattle.ffc_echelon.proofs.Buffers.{length-with_multiple}
use Rattle.ffc_echelon.proofs.Congruences.{sum_alike, multiple_alike, scale_alike, negated_multiple}

-- ---- sums

pub sum_in-zeros : (n : ℕ) (vs : List Coordinates) (k : ℕ) → sum_in (replicate n 0) vs k ≡ 0
sum_in-zeros zero vs k = refl
sum_in-zeros (suc n) [] k = refl
sum_in-zeros (suc n) (v ∷ vs) k =
    let rest : sum_in (replicate n 0) vs k ≡ 0 = sum_in-zeros n vs k in omega arith

-- one coefficient raised
pub sum_in-raised : (p : ℕ) (cs : List ℕ) (vs : List Coordinates) (i x k : ℕ) (v : Coordinates) → slice_get vs i ≡ Some v → i < length cs → sum_in (raised p cs i x) vs k % p ≡ (sum_in cs vs k + x * coordinate v k) % p
sum_in-raised p [] vs i x k v at within = absurd (omega arith)
sum_in-raised p (c ∷ cs) [] i x k v at within = cc
sum_in-raised p (c ∷ cs) (w ∷ vs) zero x k v at within =
    let same : w ≡ v = same_Some w v at in
    sum_alike p ((c + x) % p * coordinate w k) ((c + x) * coordinate w k) (sum_in cs vs k) (sum_in cs vs k) (scale_alike p ((c + x) % p) (c + x) (coordinate w k) (mod-mod (c + x) p)) refl
    ∙ ap (λ n. n % p) (let e : (c + x) * coordinate w k + sum_in cs vs k ≡ c * coordinate w k + sum_in cs vs k + x * coordinate w k = omega arith in e)
    ∙ ap (λ u. (c * coordinate w k + sum_in cs vs k + x * coordinate u k) % p) same
sum_in-raised p (c ∷ cs) (w ∷ vs) (suc i) x k v at within =
    sum_alike p (c * coordinate w k) (c * coordinate w k) (sum_in (raised p cs i x) vs k) (sum_in cs vs k + x * coordinate v k) refl (sum_in-raised p cs vs i x k v at (omega arith))
    ∙ ap (λ n. n % p) (let e : c * coordinate w k + (sum_in cs vs k + x * coordinate v k) ≡ c * coordinate w k + sum_in cs vs k + x * coordinate v k = omega arith in e)

-- one more vector
pub sum_in-take_more : (cs : List ℕ) (vs : List Coordinates) (i k : ℕ) (v : Coordinates) → slice_get vs i ≡ Some v → i < length cs → sum_in (take (suc i) cs) vs k ≡ sum_in (take i cs) vs k + get_or cs i 0 * coordinate v k
sum_in-take_more [] vs i k v at within = absurd (omega arith)
sum_in-take_more (c ∷ cs) [] i k v at within = cc
sum_in-take_more (c ∷ cs) (w ∷ vs) zero k v at within =
    let same : w ≡ v = same_Some w v at in
    let one : c * coordinate w k ≡ c * coordinate v k = ap (λ u. c * coordinate u k) same in
    omega (arith, one)
sum_in-take_more (c ∷ cs) (w ∷ vs) (suc i) k v at within =
    let rest = sum_in-take_more cs vs i k v at (omega arith) in omega (arith, rest)

-- ---- the multiples of kept rows

-- the coordinates of the kept rows
abbrev pub coordinates_in : List Kept → List Coordinates
coordinates_in kept = map (λ r. r.coordinates) kept

pub coordinates_in-at : (kept : List Kept) (j : ℕ) (r : Kept) → slice_get kept j ≡ Some r → slice_get (coordinates_in kept) j ≡ Some r.coordinates
coordinates_in-at [] j r at = cc
coordinates_in-at (q ∷ kept) zero r at = ap (λ s. Some s.coordinates) (same_Some q r at)
coordinates_in-at (q ∷ kept) (suc j) r at = coordinates_in-at kept j r at

pub coordinates_of-at : (kept : List Kept) (j : ℕ) (r : Kept) → slice_get kept j ≡ Some r → coordinates_of kept j ≡ r.coordinates
coordinates_of-at [] j r at = cc
coordinates_of-at (q ∷ kept) zero r at = ap (λ s. s.coordinates) (same_Some q r at)
coordinates_of-at (q ∷ kept) (suc j) r at = coordinates_of-at kept j r at

-- what holds of each element holds of one
pub held : {X : Type 0} (P : X → Type 0) (xs : List X) (j : ℕ) (x : X) → All P xs → slice_get xs j ≡ Some x → P x
held P xs j x all at = subst P (get_or_from_slice_get xs j x x at) (all j x (slice_get_within xs j x at))

-- there is a row below the number of rows
pub row_below : (kept : List Kept) (j : ℕ) → j < length kept → (r : Kept) × (slice_get kept j ≡ Some r)
row_below [] j within = absurd (omega arith)
row_below (q ∷ kept) zero within = (q, refl)
row_below (q ∷ kept) (suc j) within = row_below kept j (omega arith)

pub coordinates_in-below : (kept : List Kept) (j : ℕ) → j < length kept → slice_get (coordinates_in kept) j ≡ Some (coordinates_of kept j)
coordinates_in-below [] j within = absurd (omega arith)
coordinates_in-below (q ∷ kept) zero within = refl
coordinates_in-below (q ∷ kept) (suc j) within = coordinates_in-below kept j (omega arith)

-- multiples of rows are raised weights
pub sum_in-with_multiple : (p c : ℕ) (kept : List Kept) (ms : List Multiplier) (ws : List ℕ) (k : ℕ) → All (λ m. m.0 < length ws) ms → length ws ≤ length kept → sum_in (with_multiple p c ms ws) (coordinates_in kept) k % p ≡ (sum_in ws (coordinates_in kept) k + c * multiple_in kept ms k) % p
sum_in-with_multiple p c kept [] ws k there short =
    ap (λ n. n % p) (let same : sum_in ws (coordinates_in kept) k ≡ sum_in ws (coordinates_in kept) k + c * 0 = omega arith in same)
sum_in-with_multiple p c kept (m ∷ ms) ws k there short =
    let x = mul_mod p c m.1 in
    let us = raised p ws m.0 x in
    let long : length us ≡ length ws = length-set ws m.0 (add_mod p (get_or ws m.0 0) x) in
    let here : m.0 < length ws = All-head (λ m. m.0 < length ws) m ms there in
    let rest : All (λ m. m.0 < length us) ms = subst (λ n. All (λ m. m.0 < n) ms) (sym long) (All-tail (λ m. m.0 < length ws) m ms there) in
    let row = coordinate (coordinates_of kept m.0) k in
    let later = multiple_in kept ms k in
    let all = sum_in ws (coordinates_in kept) k in
    sum_in-with_multiple p c kept ms us k rest (omega (arith, long))
    ∙ sum_alike p (sum_in us (coordinates_in kept) k) (all + x * row) (c * later) (c * later)
    (sum_in-raised p ws (coordinates_in kept) m.0 x k (coordinates_of kept m.0) (coordinates_in-below kept m.0 (omega arith)) here) refl
    ∙ ap (λ n. n % p) (let same : all + x * row + c * later ≡ x * row + (all + c * later) = omega arith in same)
    ∙ sum_alike p (x * row) (c * m.1 * row) (all + c * later) (all + c * later) (scale_alike p x (c * m.1) row (mod-mod (c * m.1) p)) refl
    ∙ ap (λ n. n % p) (let same : c * m.1 * row + (all + c * later) ≡ all + c * (m.1 * row + later) = omega arith in same)

take-set : (i j : ℕ) (xs : List ℕ) (y : ℕ) → take i (set xs j y) ≡ set (take i xs) j y
take-set zero j xs y = refl
take-set (suc i) j [] y = refl
take-set (suc i) zero (x ∷ xs) y = refl
take-set (suc i) (suc j) (x ∷ xs) y = ap (λ l. x ∷ l) (take-set i j xs y)

-- rows before a place raise the weights before it alone
pub take-with_multiple : (p c i : ℕ) (ms : List Multiplier) (ws : List ℕ) → All (λ m. m.0 < i) ms → take i (with_multiple p c ms ws) ≡ with_multiple p c ms (take i ws)
take-with_multiple p c i [] ws before = refl
take-with_multiple p c i (m ∷ ms) ws before =
    let x = mul_mod p c m.1 in
    let here : m.0 < i = All-head (λ m. m.0 < i) m ms before in
    take-with_multiple p c i ms (raised p ws m.0 x) (All-tail (λ m. m.0 < i) m ms before)
    ∙ ap (with_multiple p c ms)
    (take-set i m.0 ws (add_mod p (get_or ws m.0 0) x)
    ∙ ap (λ n. set (take i ws) m.0 (add_mod p n x)) (sym (get_or-take i ws m.0 0 here)))

-- ---- one row taken back into its input

-- w times a row is w times its scale times its input, less the multiples of rows before it
row_taken : (p w scale rest input multiple s row : ℕ) → 0 < p → row ≡ mul_mod p scale rest → add_mod p rest multiple ≡ input % p → s ≡ mul_mod p w scale → (s * input + neg_mod p s * multiple) % p ≡ (w * row) % p
row_taken p w scale rest input multiple s row positive scaled sum is =
    let below : mul_mod p w scale < p = mod-lt (w * scale) positive in
    sum_alike p (s * input) (s * (rest + multiple)) (neg_mod p s * multiple) (neg_mod p s * multiple) (multiple_alike p s input (rest + multiple) (sym sum)) refl
    ∙ ap (λ n. n % p) (let same : s * (rest + multiple) + neg_mod p s * multiple ≡ s * rest + (neg_mod p s * multiple + s * multiple) = omega arith in same)
    ∙ sum_alike p (s * rest) (s * rest) (neg_mod p s * multiple + s * multiple) 0 refl (negated_multiple p s multiple (omega (arith, is, below)) ∙ sym (zero-mod p))
    ∙ ap (λ n. n % p) (let same : s * rest + 0 ≡ s * rest = omega arith in same)
    ∙ scale_alike p s (w * scale) rest (ap (λ n. n % p) is ∙ mod-mod (w * scale) p)
    ∙ ap (λ n. n % p) (let same : w * scale * rest ≡ w * (scale * rest) = omega arith in same)
    ∙ multiple_alike p w (scale * rest) row (sym (mod-mod (scale * rest) p) ∙ ap (λ n. n % p) (sym scaled))

-- The coefficients and the weights of the rows before a place, with that row's weight moved to its input and to rows before it.
pub row_moved : (p : ℕ) (inputs : List Coordinates) (kept : List Kept) (cs ws : List ℕ) (i s k : ℕ) (r : Kept) → 0 < p → slice_get kept i ≡ Some r → IsKeptOf p inputs kept i r → length cs ≡ length inputs → length ws ≡ length kept → s ≡ mul_mod p (get_or ws i 0) r.scale → (sum_in (raised p cs r.input s) inputs k + sum_in (take i (with_multiple p (neg_mod p s) r.multipliers ws)) (coordinates_in kept) k) % p ≡ (sum_in cs inputs k + sum_in (take (suc i) ws) (coordinates_in kept) k) % p
row_moved p inputs kept cs ws i s k r positive at made long weights is =
    let within : i < length kept = slice_get_within kept i r at in
    let rows = coordinates_in kept in
    let input = coordinate made.input k in
    let multiple = multiple_in kept r.multipliers k in
    let row = coordinate r.coordinates k in
    let all = sum_in cs inputs k in
    let before = sum_in (take i ws) rows k in
    let w = get_or ws i 0 in
    let there : length (take i ws) ≡ i = length-take-le i ws (omega arith) in
    let numbers : All (λ m. m.0 < length (take i ws)) r.multipliers = subst (λ n. All (λ m. m.0 < n) r.multipliers) (sym there) made.before in
    sum_alike p (sum_in (raised p cs r.input s) inputs k) (all + s * input)
    (sum_in (take i (with_multiple p (neg_mod p s) r.multipliers ws)) rows k) (before + neg_mod p s * multiple)
    (sum_in-raised p cs inputs r.input s k made.input made.at (omega (arith, long, slice_get_within inputs r.input made.input made.at)))
    (ap (λ us. sum_in us rows k % p) (take-with_multiple p (neg_mod p s) i r.multipliers ws made.before)
    ∙ sum_in-with_multiple p (neg_mod p s) kept r.multipliers (take i ws) k numbers (omega arith))
    ∙ ap (λ n. n % p) (let same : all + s * input + (before + neg_mod p s * multiple) ≡ all + before + (s * input + neg_mod p s * multiple) = omega arith in same)
    ∙ sum_alike p (all + before) (all + before) (s * input + neg_mod p s * multiple) (w * row) refl
    (row_taken p w r.scale (coordinate made.rest k) input multiple s row positive (made.scaled k) (made.sum.sum k) is)
    ∙ ap (λ n. n % p) (let same : all + before + w * row ≡ all + (before + w * row) = omega arith in same)
    ∙ ap (λ n. (all + n) % p) (sym (sum_in-take_more ws rows i k r.coordinates (coordinates_in-at kept i r at) (omega arith)))

-- ---- all rows taken back, from the last to the first

pub combining_begins : (p scale count : ℕ) (vectors : List Coordinates) (kept : List Kept) (ms : List Multiplier) (cs ws : List ℕ) (k : ℕ) → cs ≡ replicate count 0 → ws ≡ with_multiple p scale ms (replicate (length kept) 0) → All (λ m. m.0 < length kept) ms → (sum_in cs vectors k + sum_in (take (length kept) ws) (coordinates_in kept) k) % p ≡ (scale * multiple_in kept ms k) % p
combining_begins p scale count vectors kept ms cs ws k none weights there =
    let n = length kept in
    let zeros = replicate {A = ℕ} n 0 in
    let long : length zeros ≡ n = length-replicate n 0 in
    let whole : length (with_multiple p scale ms zeros) ≤ n = omega (arith, length-with_multiple p scale ms zeros, long) in
    let nothing = sum_in-zeros n (coordinates_in kept) k in
    ap (λ l. (sum_in l vectors k + sum_in (take n ws) (coordinates_in kept) k) % p) none
    ∙ ap (λ m. (m + sum_in (take n ws) (coordinates_in kept) k) % p) (sum_in-zeros count vectors k)
    ∙ ap (λ m. m % p) (zero-add (sum_in (take n ws) (coordinates_in kept) k))
    ∙ ap (λ l. sum_in l (coordinates_in kept) k % p) (ap (take n) weights ∙ take_all n (with_multiple p scale ms zeros) whole)
    ∙ sum_in-with_multiple p scale kept ms zeros k (subst (λ j. All (λ m. m.0 < j) ms) (sym long) there) (omega (arith, long))
    ∙ ap (λ m. (m + scale * multiple_in kept ms k) % p) nothing
    ∙ ap (λ m. m % p) (zero-add (scale * multiple_in kept ms k))

pub combining_continues : (p : ℕ) (inputs : List Coordinates) (kept : List Kept) (cs ws ds us : List ℕ) (number s k : ℕ) (r : Kept) → 0 < p → 0 < number → slice_get kept (number - 1) ≡ Some r → IsKeptOf p inputs kept (number - 1) r → length cs ≡ length inputs → length ws ≡ length kept → s ≡ mul_mod p (get_or ws (number - 1) 0) r.scale → ds ≡ raised p cs r.input s → us ≡ with_multiple p (neg_mod p s) r.multipliers ws → (sum_in ds inputs k + sum_in (take (number - 1) us) (coordinates_in kept) k) % p ≡ (sum_in cs inputs k + sum_in (take number ws) (coordinates_in kept) k) % p
combining_continues p inputs kept cs ws ds us number s k r positive some at made long weights is coefficients moved =
    ap₂ (λ l m. (sum_in l inputs k + sum_in (take (number - 1) m) (coordinates_in kept) k) % p) coefficients moved
    ∙ row_moved p inputs kept cs ws (number - 1) s k r positive at made long weights is
    ∙ ap (λ j. (sum_in cs inputs k + sum_in (take j ws) (coordinates_in kept) k) % p) (let same : suc (number - 1) ≡ number = omega arith in same)

pub combining_ends : (p scale number : ℕ) (vectors : List Coordinates) (kept : List Kept) (ms : List Multiplier) (cs ws : List ℕ) (k : ℕ) → number ≡ 0 → (sum_in cs vectors k + sum_in (take number ws) (coordinates_in kept) k) % p ≡ (scale * multiple_in kept ms k) % p → sum_in cs vectors k % p ≡ (scale * multiple_in kept ms k) % p
combining_ends p scale number vectors kept ms cs ws k last sum =
    ap (λ m. m % p) (sym (add-zero (sum_in cs vectors k)))
    ∙ ap (λ j. (sum_in cs vectors k + sum_in (take j ws) (coordinates_in kept) k) % p) (sym last)
    ∙ sum
