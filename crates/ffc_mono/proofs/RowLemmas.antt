-- Rows of monomials: the buffer and the marks against the list of monomials.
use Rattle.std.proofs.Common.{◌≡◌, ◌≢◌, ℕ, zero, suc, ◌+◌, ◌-◌, ◌<◌, ◌≤◌, List, [], ◌∷◌, ◌++◌, map, length, get_or, take, drop, refl, sym, ap, ap₂, ◌∙◌, subst, arith, append_assoc, append-nil, length-append, length-drop, take-append-drop}
use Rattle.std.proofs.Math.Seq.{take-append_seam, drop-append_seam, take-add}
use Rattle.std.proofs.lemmas.List.{drop_more, get_or_default, get_or-take, get_or-drop, length-take}
use Rattle.std.specs.Prelude.{slice_range}
use Rattle.ffc_ring.specs.Monomial.{Monomial, IsMonomial, degree}
use Rattle.ffc_mono.specs.Masks.{mask_of}
use Rattle.ffc_mono.specs.declared.row.Mark.{Mark}
use Rattle.ffc_mono.specs.Rows.{flat, marks_from, cut_at, AreMonomials, IsRow, start_at, moved}

cut-marks : (start : ℕ) (ms : List Monomial) → cut_at start (marks_from start ms) (flat ms) ≡ ms
cut-marks start [] = refl
cut-marks start (m ∷ ms) =
    let e : start + length m - start ≡ length m = omega arith in
    rw e
    (ap₂ ◌∷◌ (take-append_seam m (flat ms))
    (ap (cut_at (start + length m) (marks_from (start + length m) ms)) (drop-append_seam m (flat ms)) ∙ cut-marks (start + length m) ms))

-- the list that a buffer and marks give
pub row-view : (ps : List (ℕ × ℕ)) (ks : List Mark) (ms : List Monomial) → IsRow ps ks ms → cut_at 0 ks ps ≡ ms
row-view ps ks ms r = ap₂ (cut_at 0) r.marks r.powers ∙ cut-marks 0 ms

pub row-is : (ps : List (ℕ × ℕ)) (ks : List Mark) (ms : List Monomial) → IsRow ps ks ms → IsRow ps ks (cut_at 0 ks ps)
row-is ps ks ms r = subst (IsRow ps ks) (sym (row-view ps ks ms r)) r

pub length-cut : (start : ℕ) (ks : List Mark) (ps : List (ℕ × ℕ)) → length (cut_at start ks ps) ≡ length ks
length-cut start [] ps = refl
length-cut start (k ∷ ks) ps = ap suc (length-cut k.end ks (drop (k.end - start) ps))

-- ---- a monomial more

marks-from_none : (n : ℕ) (ms : List Monomial) → marks_from (0 + n) ms ≡ marks_from n ms
marks-from_none n ms = ap (λ k. marks_from k ms) (omega arith)

flat-append : (xs ys : List Monomial) → flat (xs ++ ys) ≡ flat xs ++ flat ys
flat-append [] ys = refl
flat-append (m ∷ xs) ys = ap (λ k. m ++ k) (flat-append xs ys) ∙ sym (append_assoc m (flat xs) (flat ys))

marks-append : (start : ℕ) (xs ys : List Monomial) → marks_from start (xs ++ ys) ≡ marks_from start xs ++ marks_from (start + length (flat xs)) ys
marks-append start [] ys = ap (λ k. marks_from k ys) (omega arith)
marks-append start (m ∷ xs) ys =
    let e : start + length m + length (flat xs) ≡ start + length (m ++ flat xs) = omega (arith, length-append m (flat xs)) in
    ap (λ ks. record { end = start + length m; total_degree = degree m; mask = mask_of m } ∷ ks)
    (marks-append (start + length m) xs ys ∙ ap (λ k. marks_from (start + length m) xs ++ marks_from k ys) e)

AreMonomials-append : (xs ys : List Monomial) → AreMonomials xs → AreMonomials ys → AreMonomials (xs ++ ys)
AreMonomials-append [] ys v w = w
AreMonomials-append (m ∷ xs) ys v w = (v.0, v.1, AreMonomials-append xs ys v.2 w)

pub row-append : (ps qs : List (ℕ × ℕ)) (ks js : List Mark) (ms ns : List Monomial) → IsRow ps ks ms → qs ≡ flat ns → js ≡ marks_from (length ps) ns → AreMonomials ns → IsRow (ps ++ qs) (ks ++ js) (ms ++ ns)
row-append ps qs ks js ms ns r e f v = record {
  powers = ap₂ (λ x y. x ++ y) r.powers e ∙ sym (flat-append ms ns);
  marks =
      ap₂ (λ x y. x ++ y) r.marks (f ∙ ap (λ k. marks_from (length k) ns) r.powers ∙ sym (marks-from_none (length (flat ms)) ns))
      ∙ sym (marks-append 0 ms ns);
  monomials = AreMonomials-append ms ns r.monomials v;
}

pub row-push : (ps qs : List (ℕ × ℕ)) (ks : List Mark) (ms : List Monomial) (k : Mark) → IsRow ps ks ms → IsMonomial qs → degree qs ≤ 1024 → k.end ≡ length ps + length qs → k.total_degree ≡ degree qs → k.mask ≡ mask_of qs → IsRow (ps ++ qs) (ks ++ k ∷ []) (ms ++ qs ∷ [])
row-push ps qs ks ms k r v d e f g =
    row-append ps qs ks (k ∷ []) ms (qs ∷ []) r (sym (append-nil qs))
    (ap (λ x. x ∷ []) (ap₂ (λ (x : ℕ) (y : ℕ × ℕ). record { end = x; total_degree = y.0; mask = y.1 }) e (ap₂ (λ x y. (x, y)) f g))) (v, d, tt)

-- equal buffers and equal marks
pub row-moved : (ps ps' : List (ℕ × ℕ)) (ks ks' : List Mark) (ms : List Monomial) → ps' ≡ ps → ks' ≡ ks → IsRow ps ks ms → IsRow ps' ks' ms
row-moved ps ps' ks ks' ms e f r = record {
  powers = e ∙ r.powers;
  marks = f ∙ r.marks;
  monomials = r.monomials;
}

-- ---- the monomial at a place

-- the row of no marks before a place
mark_end : (start : ℕ) (ms : List Monomial) (i : ℕ) (d : Mark) → i < length ms → (get_or (marks_from start ms) i d).end ≡ start + (length (flat (take i ms)) + length (get_or ms i []))
mark_end start [] i d h = absurd (omega arith)
mark_end start (m ∷ ms) zero d h = omega arith
mark_end start (m ∷ ms) (suc i) d h = omega (arith, mark_end (start + length m) ms i d (omega arith), length-append m (flat (take i ms)))

mark_degree : (start : ℕ) (ms : List Monomial) (i : ℕ) (d : Mark) → i < length ms → (get_or (marks_from start ms) i d).total_degree ≡ degree (get_or ms i [])
mark_degree start [] i d h = absurd (omega arith)
mark_degree start (m ∷ ms) zero d h = refl
mark_degree start (m ∷ ms) (suc i) d h = mark_degree (start + length m) ms i d (omega arith)

mark_mask : (start : ℕ) (ms : List Monomial) (i : ℕ) (d : Mark) → i < length ms → (get_or (marks_from start ms) i d).mask ≡ mask_of (get_or ms i [])
mark_mask start [] i d h = absurd (omega arith)
mark_mask start (m ∷ ms) zero d h = refl
mark_mask start (m ∷ ms) (suc i) d h = mark_mask (start + length m) ms i d (omega arith)

length-flat-take-suc : (ms : List Monomial) (i : ℕ) → i < length ms → length (flat (take (suc i) ms)) ≡ length (flat (take i ms)) + length (get_or ms i [])
length-flat-take-suc [] i h = absurd (omega arith)
length-flat-take-suc (m ∷ ms) zero h = omega (arith, length-append m [])
length-flat-take-suc (m ∷ ms) (suc i) h =
    omega (arith, length-flat-take-suc ms i (omega arith), length-append m (flat (take (suc i) ms)), length-append m (flat (take i ms)))

start-marks : (ms : List Monomial) (i : ℕ) → i ≤ length ms → start_at (marks_from 0 ms) i ≡ length (flat (take i ms))
start-marks ms zero h = refl
start-marks ms (suc i) h =
    omega (arith, mark_end 0 ms i record { end = 0; total_degree = 0; mask = 0 } (omega arith), length-flat-take-suc ms i (omega arith))

drop-flat : (ms : List Monomial) (i : ℕ) → drop (length (flat (take i ms))) (flat ms) ≡ flat (drop i ms)
drop-flat ms i =
    ap (drop (length (flat (take i ms)))) (sym (ap flat (take-append-drop i ms)) ∙ flat-append (take i ms) (drop i ms))
    ∙ drop-append_seam (flat (take i ms)) (flat (drop i ms))

length-flat-take : (ms : List Monomial) (i : ℕ) → length (flat (take i ms)) + length (flat (drop i ms)) ≡ length (flat ms)
length-flat-take ms i =
    sym (length-append (flat (take i ms)) (flat (drop i ms)))
    ∙ ap length (sym (flat-append (take i ms) (drop i ms)) ∙ ap flat (take-append-drop i ms))

pub AreMonomials-at : (ms : List Monomial) (i : ℕ) → AreMonomials ms → i < length ms → IsMonomial (get_or ms i []) × (degree (get_or ms i []) ≤ 1024)
AreMonomials-at [] i v h = absurd (omega arith)
AreMonomials-at (m ∷ ms) zero v h = (v.0, v.1)
AreMonomials-at (m ∷ ms) (suc i) v h = AreMonomials-at ms i v.2 (omega arith)

fill : (i j : ℕ) → i ≤ j → i + (j - i) ≡ j
fill i j h = omega arith

-- the monomials up to one place are those up to an earlier one and those between both
flat-between : (ms : List Monomial) (i j : ℕ) → i ≤ j → flat (take j ms) ≡ flat (take i ms) ++ flat (slice_range ms i j)
flat-between ms i j h =
    ap (λ k. flat (take k ms)) (sym (fill i j h)) ∙ ap flat (take-add i (j - i) ms) ∙ flat-append (take i ms) (take (j - i) (drop i ms))

length-between : (ms : List Monomial) (i j : ℕ) → i ≤ j → length (flat (take j ms)) ≡ length (flat (take i ms)) + length (flat (slice_range ms i j))
length-between ms i j h = ap length (flat-between ms i j h) ∙ length-append (flat (take i ms)) (flat (slice_range ms i j))

less_first : (x y z : ℕ) → x ≡ y + z → x - y ≡ z
less_first x y z e = omega arith

take-marks : (start : ℕ) (ms : List Monomial) (n : ℕ) → take n (marks_from start ms) ≡ marks_from start (take n ms)
take-marks start ms zero = refl
take-marks start [] (suc n) = refl
take-marks start (m ∷ ms) (suc n) =
    ap (λ ks. record { end = start + length m; total_degree = degree m; mask = mask_of m } ∷ ks) (take-marks (start + length m) ms n)

AreMonomials-take : (n : ℕ) (ms : List Monomial) → AreMonomials ms → AreMonomials (take n ms)
AreMonomials-take zero ms v = tt
AreMonomials-take (suc n) [] v = tt
AreMonomials-take (suc n) (m ∷ ms) v = (v.0, v.1, AreMonomials-take n ms v.2)

AreMonomials-drop : (n : ℕ) (ms : List Monomial) → AreMonomials ms → AreMonomials (drop n ms)
AreMonomials-drop zero ms v = v
AreMonomials-drop (suc n) [] v = tt
AreMonomials-drop (suc n) (m ∷ ms) v = AreMonomials-drop n ms v.2

drop-marks : (start : ℕ) (ms : List Monomial) (n : ℕ) → drop n (marks_from start ms) ≡ marks_from (start + length (flat (take n ms))) (drop n ms)
drop-marks start ms zero = ap (λ k. marks_from k ms) (omega arith)
drop-marks start [] (suc n) = refl
drop-marks start (m ∷ ms) (suc n) =
    drop-marks (start + length m) ms n ∙ ap (λ k. marks_from k (drop n ms)) (omega (arith, length-append m (flat (take n ms))))

-- marks that are moved
map-moved : (start place d : ℕ) (ms : List Monomial) → map (moved start place) (marks_from (start + d) ms) ≡ marks_from (place + d) ms
map-moved start place d [] = refl
map-moved start place d (m ∷ ms) =
    let one : start + d + length m - start + place ≡ place + d + length m = omega arith in
    let rest : start + d + length m ≡ start + (d + length m) = omega arith in
    let rest' : place + (d + length m) ≡ place + d + length m = omega arith in
    ap₂ (λ (x : ℕ) (ks : List Mark). record { end = x; total_degree = degree m; mask = mask_of m } ∷ ks) one
    (ap (λ k. map (moved start place) (marks_from k ms)) rest ∙ map-moved start place (d + length m) ms ∙ ap (λ k. marks_from k ms) rest')

one_between : (ms : List Monomial) (i : ℕ) → i < length ms → slice_range ms i (suc i) ≡ get_or ms i [] ∷ []
one_between ms i h =
    let one : suc i - i ≡ 1 = omega arith in ap₂ take one (drop_more ms i [] h)

module _ (ps : List (ℕ × ℕ)) (ks : List Mark) (ms : List Monomial) (r : IsRow ps ks ms) where
  pub start_is : (i : ℕ) → i ≤ length ms → start_at ks i ≡ length (flat (take i ms))
  start_is i h = ap (λ k. start_at k i) r.marks ∙ start-marks ms i h

  pub length_is : length ks ≡ length ms
  length_is = sym (length-cut 0 ks ps) ∙ ap length (row-view ps ks ms r)

  pub buffer_is : length ps ≡ length (flat ms)
  buffer_is = ap length r.powers

  -- each start is within the buffer
  pub start_within : (i : ℕ) → i ≤ length ms → start_at ks i ≤ length ps
  start_within i h = omega (arith, start_is i h, buffer_is, length-flat-take ms i)

  pub starts_rise : (i j : ℕ) → i ≤ j → j ≤ length ms → start_at ks i ≤ start_at ks j
  starts_rise i j h l = omega (arith, start_is i (omega arith), start_is j l, length-between ms i j h)

  -- the part of the buffer between two starts has the monomials between the two places
  pub part_is : (i j : ℕ) → i ≤ j → j ≤ length ms → slice_range ps (start_at ks i) (start_at ks j) ≡ flat (slice_range ms i j)
  part_is i j h l =
      let size : start_at ks j - start_at ks i ≡ length (flat (slice_range ms i j)) =
      ap₂ (λ x y. x - y) (start_is j l) (start_is i (omega arith)) ∙ less_first _ _ _ (length-between ms i j h) in
      let rest : drop (start_at ks i) ps ≡ flat (slice_range ms i j) ++ flat (drop (j - i) (drop i ms)) =
      ap₂ drop (start_is i (omega arith)) r.powers ∙ drop-flat ms i
      ∙ sym (ap flat (take-append-drop (j - i) (drop i ms))) ∙ flat-append (take (j - i) (drop i ms)) (drop (j - i) (drop i ms)) in
      ap₂ take size rest ∙ take-append_seam (flat (slice_range ms i j)) (flat (drop (j - i) (drop i ms)))

  pub part_at : (i : ℕ) → i < length ms → slice_range ps (start_at ks i) (start_at ks (suc i)) ≡ get_or ms i []
  part_at i h =
      part_is i (suc i) (omega arith) (omega arith) ∙ ap flat (one_between ms i h) ∙ append-nil (get_or ms i [])

  pub degree_at : (i : ℕ) (d : Mark) → i < length ms → (get_or ks i d).total_degree ≡ degree (get_or ms i [])
  degree_at i d h = ap (λ k. (get_or k i d).total_degree) r.marks ∙ mark_degree 0 ms i d h

  pub mask_at : (i : ℕ) (d : Mark) → i < length ms → (get_or ks i d).mask ≡ mask_of (get_or ms i [])
  mask_at i d h = ap (λ k. (get_or k i d).mask) r.marks ∙ mark_mask 0 ms i d h

  -- the row cut off at a place
  pub row-take : (n : ℕ) → n ≤ length ms → IsRow (take (start_at ks n) ps) (take n ks) (take n ms)
  row-take n h = record {
    powers =
        ap₂ take (start_is n h) (r.powers ∙ sym (ap flat (take-append-drop n ms)) ∙ flat-append (take n ms) (drop n ms))
        ∙ take-append_seam (flat (take n ms)) (flat (drop n ms));
    marks = ap (take n) r.marks ∙ take-marks 0 ms n;
    monomials = AreMonomials-take n ms r.monomials;
  }

  -- the marks between two places, moved to another place
  pub marks_between : (place i j : ℕ) → i ≤ j → j ≤ length ms → map (moved (start_at ks i) place) (slice_range ks i j) ≡ marks_from place (slice_range ms i j)
  marks_between place i j h l =
      let start = length (flat (take i ms)) in
      let parts : slice_range ks i j ≡ marks_from (start + 0) (slice_range ms i j) =
      ap (λ k. slice_range k i j) r.marks ∙ ap (take (j - i)) (drop-marks 0 ms i ∙ marks-from_none start (drop i ms)) ∙ take-marks start (drop i ms) (j - i)
      ∙ ap (λ k. marks_from k (slice_range ms i j)) (omega arith) in
      ap₂ (λ x y. map (moved x place) y) (start_is i (omega arith)) parts ∙ map-moved start place 0 (slice_range ms i j)
      ∙ ap (λ k. marks_from k (slice_range ms i j)) (omega arith)

  -- a monomial between two places ends between their starts
  pub ends_within : (from to k : ℕ) (d : Mark) → from ≤ to → to ≤ length ms → k < length (slice_range ks from to) → (start_at ks from ≤ (get_or (slice_range ks from to) k d).end) × ((get_or (slice_range ks from to) k d).end ≤ start_at ks to)
  ends_within from to k d h l low =
      let below : k < to - from = omega (arith, length-take (to - from) (drop from ks)) in
      let place : from + k < length ks = omega (arith, length_is) in
      let end : (get_or (slice_range ks from to) k d).end ≡ start_at ks (suc (from + k)) =
      ap (λ m. m.end) (get_or-take (to - from) (drop from ks) k d below ∙ get_or-drop from ks k d ∙ get_or_default ks (from + k) d record { end = 0; total_degree = 0; mask = 0 } place) in
      (omega (arith, end, starts_rise from (suc (from + k)) (omega arith) (omega arith)), omega (arith, end, starts_rise (suc (from + k)) to (omega arith) l))

  pub monomials_between : (i j : ℕ) → AreMonomials (slice_range ms i j)
  monomials_between i j = AreMonomials-take (j - i) (drop i ms) (AreMonomials-drop i ms r.monomials)

pub start_at-suc : (ks : List Mark) (i : ℕ) → i ≢ 0 → (get_or ks (i - 1) record { end = 0; total_degree = 0; mask = 0 }).end ≡ start_at ks i
start_at-suc ks zero h = absurd (h refl)
start_at-suc ks (suc i) h =
    let e : suc i - 1 ≡ i = omega arith in
    ap (λ k. (get_or ks k record { end = 0; total_degree = 0; mask = 0 }).end) e

-- the mark of a place has the start of the next one
pub end_of : (ks : List Mark) (i : ℕ) (k : Mark) → i < length ks → k ≡ get_or ks i k → k.end ≡ start_at ks (suc i)
end_of ks i k h e = ap (λ m. m.end) e ∙ ap (λ m. m.end) (get_or_default ks i k record { end = 0; total_degree = 0; mask = 0 } h)

pub length-between-places : {A : Type 0} (xs : List A) (from to : ℕ) → to ≤ length xs → length (slice_range xs from to) ≡ to - from
length-between-places xs from to h = omega (arith, length-take (to - from) (drop from xs), length-drop from xs)
