-- Marks as bits of words.
use Rattle.std.proofs.Common.{◌≡◌, ◌≢◌, ℕ, zero, suc, ◌+◌, ◌-◌, ◌*◌, ◌/◌, ◌%◌, ◌^◌, ◌<◌, ◌≤◌, min, Bool, true, false, eqb, List, [], ◌∷◌, length, set, get_or, replicate, refl, sym, ap, ◌∙◌, subst, inl, inr, arith, eq-eqb, length-set, get_or-set_same, get_or-set_other}
use Rattle.std.proofs.Math.Nat.{pow-succ', div-eq_of_lt-le}
use Rattle.std.proofs.lemmas.Bool.{false≢true, cases_eq, cases_lt}
use Rattle.std.proofs.lemmas.List.{get_or_past, get_or-replicate, length-replicate}
use Rattle.std.proofs.lemmas.List.FromFn.{length-map-range_with_len, get_or-map-range_with_len, fill_by_all}
use Rattle.std.proofs.lemmas.Nat.Bits.{bit_at-zero, bit_at-lt, bit_at_and, bit_at_ones, bit_at_ones_above, bit_at_above, bit_at_set_same, bit_at_set_other, ones_shr}
use Rattle.std.specs.Int.{bit_at, w64}
use Rattle.std.specs.Int.Bits.{bit_and, bit_or}
use Rattle.ffc_term.specs.Marking.{IsMarked, IsNoneMarked, mark_in, marks_in}

pub length-marks_in : (words : List ℕ) (bound : ℕ) → length (marks_in words bound) ≡ bound
length-marks_in words bound = length-map-range_with_len (mark_in words) 0 bound

mark_at : (words : List ℕ) (bound k : ℕ) → k < bound → get_or (marks_in words bound) k false ≡ mark_in words k
mark_at words bound k inside = get_or-map-range_with_len (mark_in words) 0 bound k k false inside (omega arith)

-- ---- no marks

zeros_at : (n i : ℕ) → get_or {A = ℕ} (replicate n 0) i 0 ≡ 0
zeros_at n i =
    elim (cases_lt i n) [
      | inl inside ↦ get_or-replicate n i 0 0 inside
      | inr past ↦ get_or_past (replicate n 0) i 0 (omega (arith, length-replicate {A = ℕ} n 0))
    ]

none_in_zeros : (n k : ℕ) → mark_in (replicate n 0) k ≡ false
none_in_zeros n k = ap (λ w. eqb (bit_at w (k % 64)) 1) (zeros_at n (k / 64)) ∙ ap (λ b. eqb b 1) (bit_at-zero (k % 64))

pub marks_in-zeros : (n bound : ℕ) → marks_in (replicate n 0) bound ≡ replicate bound false
marks_in-zeros n bound =
    sym
    (fill_by_all (mark_in (replicate n 0)) (replicate bound false) bound false (length-replicate bound false)
    (λ k inside. get_or-replicate bound k false false inside ∙ sym (none_in_zeros n k)))

-- ---- one more mark

-- a word that was read
pub word_read : (words : List ℕ) (i word : ℕ) → i < length words → word ≡ get_or words i word → word ≡ get_or words i 0
word_read [] i word inside is = absurd (omega arith)
word_read (w ∷ words) zero word inside is = is
word_read (w ∷ words) (suc i) word inside is = word_read words i word (omega arith) is

module _ (words : List ℕ) (bound id word : ℕ) (inside : id < bound) (long : bound ≤ 64 * length words) (is : word ≡ bit_or (get_or words (id / 64) 0) (1 * 2 ^ (id % 64) % 2 ^ 64)) where
  here : get_or (set words (id / 64) word) (id / 64) 0 ≡ word
  here = get_or-set_same words (id / 64) word 0 (omega arith)

  made : mark_in (set words (id / 64) word) id ≡ true
  made = ap (λ w. eqb (bit_at w (id % 64)) 1) (here ∙ is) ∙ eq-eqb _ 1 (bit_at_set_same w64 (get_or words (id / 64) 0) (id % 64) (omega arith))

  same_word : (k : ℕ) → k ≢ id → k / 64 ≡ id / 64 → mark_in (set words (id / 64) word) k ≡ mark_in words k
  same_word k other same =
      let apart : k % 64 ≢ id % 64 = λ e. other (omega arith) in
      ap (λ j. eqb (bit_at (get_or (set words (id / 64) word) j 0) (k % 64)) 1) same
      ∙ ap (λ w. eqb (bit_at w (k % 64)) 1) (here ∙ is)
      ∙ ap (λ b. eqb b 1) (bit_at_set_other w64 (get_or words (id / 64) 0) (id % 64) (omega arith) (k % 64) apart)
      ∙ ap (λ j. eqb (bit_at (get_or words j 0) (k % 64)) 1) (sym same)

  kept : (k : ℕ) → k ≢ id → mark_in (set words (id / 64) word) k ≡ mark_in words k
  kept k other =
      elim (cases_eq (k / 64) (id / 64)) [
        | inl same ↦ same_word k other same
        | inr apart ↦ ap (λ w. eqb (bit_at w (k % 64)) 1) (get_or-set_other words (id / 64) (k / 64) word 0 apart)
      ]

  pub marks_in-set : marks_in (set words (id / 64) word) bound ≡ set (marks_in words bound) id true
  marks_in-set =
      sym
      (fill_by_all (mark_in (set words (id / 64) word)) (set (marks_in words bound) id true) bound false
      (length-set (marks_in words bound) id true ∙ length-marks_in words bound)
      (λ k below.
      elim (cases_eq k id) as (λ _. get_or (set (marks_in words bound) id true) k false ≡ mark_in (set words (id / 64) word) k) [
        | inl same ↦
            subst (λ j. get_or (set (marks_in words bound) id true) j false ≡ mark_in (set words (id / 64) word) j) (sym same)
            (get_or-set_same (marks_in words bound) id true false (omega (arith, length-marks_in words bound)) ∙ sym made)
        | inr other ↦
            get_or-set_other (marks_in words bound) id k true false other ∙ mark_at words bound k below ∙ sym (kept k other)
      ]))

-- ---- the highest bit up to a place

with_one : (b : ℕ) → b < 2 → min b 1 ≡ b
with_one b h = omega arith

no_one : (b : ℕ) → b ≡ 0 → b ≡ 1 → ⊥
no_one b none one = omega arith

module _ (word last : ℕ) (within : last < 64) where
  mask : (2 ^ 64 - 1) / 2 ^ (63 - last) ≡ 2 ^ (last + 1) - 1
  mask = ones_shr 64 (63 - last) (omega arith) ∙ ap (λ k. 2 ^ k - 1) (omega arith)

  bit_low : (j : ℕ) → j ≤ last → bit_at (bit_and word ((2 ^ 64 - 1) / 2 ^ (63 - last))) j ≡ bit_at word j
  bit_low j low =
      bit_at_and word ((2 ^ 64 - 1) / 2 ^ (63 - last)) j
      ∙ ap (min (bit_at word j)) (ap (λ m. bit_at m j) mask ∙ bit_at_ones (last + 1) j (omega arith))
      ∙ with_one (bit_at word j) (bit_at-lt word j)

  bit_high : (j : ℕ) → last < j → bit_at (bit_and word ((2 ^ 64 - 1) / 2 ^ (63 - last))) j ≡ 0
  bit_high j high =
      bit_at_and word ((2 ^ 64 - 1) / 2 ^ (63 - last)) j
      ∙ ap (min (bit_at word j)) (ap (λ m. bit_at m j) mask ∙ bit_at_ones_above (last + 1) j (omega arith)) ∙ omega arith

  module _ (bits : ℕ) (is : bits ≡ bit_and word ((2 ^ 64 - 1) / 2 ^ (63 - last))) where
    pub no_bit : bits ≡ 0 → (j : ℕ) → j ≤ last → bit_at word j ≡ 0
    no_bit none j low = sym (bit_low j low) ∙ ap (λ b. bit_at b j) (sym is ∙ none) ∙ bit_at-zero j

    module _ (r : ℕ) (least : 2 ^ r ≤ bits) (most : bits < 2 * 2 ^ r) where
      top : bit_at bits r ≡ 1
      top = ap (λ q. q % 2) (div-eq_of_lt-le {k = 1} (2 ^ r) {m = bits} (omega arith) (omega arith))

      pub bit_within : r ≤ last
      bit_within =
          elim (cases_lt last r) as (λ _. r ≤ last) [
            | inl high ↦ absurd (no_one (bit_at bits r) (ap (λ b. bit_at b r) is ∙ bit_high r high) top)
            | inr low ↦ low
          ]

      pub bit_set : bit_at word r ≡ 1
      bit_set = sym (bit_low r bit_within) ∙ ap (λ b. bit_at b r) (sym is) ∙ top

      pub none_above : (j : ℕ) → r < j → j ≤ last → bit_at word j ≡ 0
      none_above j above low =
          let few : bits < 2 ^ (suc r) = subst (λ n. bits < n) (sym (pow-succ' 2 r)) most in
          sym (bit_low j low) ∙ ap (λ b. bit_at b j) (sym is) ∙ bit_at_above bits (suc r) j few (omega arith)

-- ---- marks that one word shows

marked_by : (words : List ℕ) (bound k w i : ℕ) → k < bound → k / 64 ≡ w → k % 64 ≡ i → (b : ℕ) → bit_at (get_or words w 0) i ≡ b → get_or (marks_in words bound) k false ≡ eqb b 1
marked_by words bound k w i inside at place b is =
    mark_at words bound k inside ∙ ap (λ j. eqb (bit_at (get_or words j 0) (k % 64)) 1) at
    ∙ ap (λ j. eqb (bit_at (get_or words w 0) j) 1) place ∙ ap (λ c. eqb c 1) is

module _ (words : List ℕ) (bound end : ℕ) (inside : 0 < end) (within : end ≤ bound) where
  -- no bit of the word of end - 1 is set from the place s on up to that of end - 1
  pub none_from : (from s : ℕ) → from ≡ 64 * ((end - 1) / 64) + s → ((j : ℕ) → s ≤ j → j ≤ (end - 1) % 64 → bit_at (get_or words ((end - 1) / 64) 0) j ≡ 0) → IsNoneMarked (marks_in words bound) from end
  none_from from s e none k least below is =
      false≢true (sym (marked_by words bound k ((end - 1) / 64) (k % 64) (omega arith) (omega arith) refl 0 (none (k % 64) (omega arith) (omega arith))) ∙ is)

  pub marked_at : (i : ℕ) → i ≤ (end - 1) % 64 → bit_at (get_or words ((end - 1) / 64) 0) i ≡ 1 → IsMarked (marks_in words bound) (64 * ((end - 1) / 64) + i)
  marked_at i low on =
      marked_by words bound (64 * ((end - 1) / 64) + i) ((end - 1) / 64) i (omega arith) (omega arith) (omega arith) 1 on

pub IsNoneMarked-join : (marks : List Bool) (from between to : ℕ) → IsNoneMarked marks from between → IsNoneMarked marks between to → IsNoneMarked marks from to
IsNoneMarked-join marks from between to low high k least below is =
    elim (cases_lt k between) as (λ _. ⊥) [
      | inl before ↦ low k least before is
      | inr after ↦ high k after below is
    ]
