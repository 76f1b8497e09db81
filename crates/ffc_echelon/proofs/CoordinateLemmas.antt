-- The coordinates of a vector, column by column.
use Rattle.std.proofs.Common.{◌≡◌, ℕ, suc, ◌*◌, ◌%◌, ◌<◌, ◌≤◌, eqb, [], ◌∷◌, inl, inr, refl, sym, ap, ◌∙◌, subst, arith, eq-eqb, ne_eqb, mod-lt}
use Rattle.std.proofs.lemmas.Bool.{cond-true, cond-false, cases_eq}
use Rattle.std.proofs.lemmas.List.Elements.{All-head, All-tail, All-cons, All-nil}
use Rattle.std.proofs.Math.Nat.{mul-zero, zero-mod}
use Rattle.ffc_field.specs.Modular.{mul_mod, IsPrime}
use Rattle.ffc_field.proofs.Primes.{no_zero_product}
use Rattle.ffc_echelon.specs.Vectors.{Coordinates, AreCoordinatesFrom, coordinate, IsBelow}
use Rattle.ffc_echelon.specs.Progress.{scaled}

pub coordinate-here : (e : ℕ × ℕ) (v : Coordinates) (k : ℕ) → e.0 ≡ k → coordinate (e ∷ v) k ≡ e.1
coordinate-here e v k same = cond-true (eqb e.0 k) e.1 (coordinate v k) (eq-eqb e.0 k same)

pub coordinate-there : (e : ℕ × ℕ) (v : Coordinates) (k : ℕ) → (e.0 ≡ k → ⊥) → coordinate (e ∷ v) k ≡ coordinate v k
coordinate-there e v k other = cond-false (eqb e.0 k) e.1 (coordinate v k) (ne_eqb e.0 k other)

-- there is none before the first column
pub coordinate-before : (p low : ℕ) (v : Coordinates) (k : ℕ) → AreCoordinatesFrom p low v → k < low → coordinate v k ≡ 0
coordinate-before p low [] k valid before = refl
coordinate-before p low (e ∷ v) k valid before =
    coordinate-there e v k (λ same. omega (arith, valid.0))
    ∙ coordinate-before p (suc e.0) v k valid.3 (omega (arith, valid.0))

-- nor past the last one
pub coordinate-past : (n : ℕ) (v : Coordinates) (k : ℕ) → IsBelow n v → n ≤ k → coordinate v k ≡ 0
coordinate-past n [] k below past = refl
coordinate-past n (e ∷ v) k below past =
    let here : e.0 < n = All-head (λ e. e.0 < n) e v below in
    coordinate-there e v k (λ same. omega arith) ∙ coordinate-past n v k (All-tail (λ e. e.0 < n) e v below) past

-- each is a residue
pub coordinate-below : (p low : ℕ) (v : Coordinates) (k : ℕ) → 0 < p → AreCoordinatesFrom p low v → coordinate v k < p
coordinate-below p low [] k positive valid = positive
coordinate-below p low (e ∷ v) k positive valid = elim (cases_eq e.0 k) [
  | inl same ↦ subst (λ n. n < p) (sym (coordinate-here e v k same)) valid.2
  | inr other ↦ subst (λ n. n < p) (sym (coordinate-there e v k other)) (coordinate-below p (suc e.0) v k positive valid.3)
]

pub coordinates_lower : (p low high : ℕ) (v : Coordinates) → low ≤ high → AreCoordinatesFrom p high v → AreCoordinatesFrom p low v
coordinates_lower p low high [] less valid = tt
coordinates_lower p low high (e ∷ v) less valid = (omega (arith, valid.0), valid.1, valid.2, valid.3)

pub coordinate-scaled : (p s : ℕ) (v : Coordinates) (k : ℕ) → coordinate (scaled p s v) k ≡ mul_mod p s (coordinate v k)
coordinate-scaled p s [] k = sym (ap (λ n. n % p) (mul-zero s) ∙ zero-mod p)
coordinate-scaled p s (e ∷ v) k = elim (cases_eq e.0 k) [
  | inl same ↦
      coordinate-here (e.0, mul_mod p s e.1) (scaled p s v) k same
      ∙ ap (mul_mod p s) (sym (coordinate-here e v k same))
  | inr other ↦
      coordinate-there (e.0, mul_mod p s e.1) (scaled p s v) k other
      ∙ coordinate-scaled p s v k
      ∙ ap (mul_mod p s) (sym (coordinate-there e v k other))
]

pub below-scaled : (p s n : ℕ) (v : Coordinates) → IsBelow n v → IsBelow n (scaled p s v)
below-scaled p s n [] below = All-nil (λ e. e.0 < n)
below-scaled p s n (e ∷ v) below =
    All-cons (λ e. e.0 < n) (e.0, mul_mod p s e.1) (scaled p s v) (All-head (λ e. e.0 < n) e v below)
    (below-scaled p s n v (All-tail (λ e. e.0 < n) e v below))

-- where a product of two residues other than 0 is not 0
pub coordinates-scaled : (p s low : ℕ) (v : Coordinates) → 0 < p → ((x : ℕ) → 0 < x → x < p → 0 < mul_mod p s x) → AreCoordinatesFrom p low v → AreCoordinatesFrom p low (scaled p s v)
coordinates-scaled p s low [] positive products valid = tt
coordinates-scaled p s low (e ∷ v) positive products valid =
    (valid.0, products e.1 valid.1 valid.2, mod-lt (s * e.1) positive, coordinates-scaled p s (suc e.0) v positive products valid.3)

-- a residue other than 0 times a number other than 0
pub products_nonzero : (p s : ℕ) → IsPrime p → s < p → (s ≡ 0 → ⊥) → (x : ℕ) → 0 < x → x < p → 0 < mul_mod p s x
products_nonzero p s prime below some x positive x_below = elim (cases_eq (mul_mod p s x) 0) [
  | inl zero ↦ elim (no_zero_product p s x prime below x_below zero) [
    | inl none ↦ absurd (some none)
    | inr none ↦ absurd (omega (arith, none, positive))
  ]
  | inr rest ↦ omega (arith, rest)
]
