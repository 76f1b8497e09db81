-- Inputs that sum to a constant other than 0.
use Rattle.std.proofs.Common.{◌≡◌, ℕ, ◌+◌, ◌*◌, ◌%◌, ◌<◌, ◌≤◌, List, ◌∷◌, Some, length, get_or, refl, sym, ap, ◌∙◌, subst, arith, mod-eq_of_lt}
use Rattle.std.specs.Prelude.{slice_get}
use Rattle.std.proofs.lemmas.List.{length-set}
use Rattle.std.proofs.lemmas.Option.{slice_get_within}
use Rattle.std.proofs.lemmas.List.Elements.{All-head}
use Rattle.std.proofs.Math.Nat.{zero-mod}
use Rattle.ffc_field.specs.Modular.{add_mod, neg_mod}
use Rattle.ffc_echelon.specs.Vectors.{Coordinates, AreCoordinates, coordinate, IsBelow, sum_in}
use Rattle.ffc_echelon.specs.Forms.{Kept, Multiplier, IsRestOf, IsContradiction, IsCombination, multiple_in}
use Rattle.ffc_echelon.specs.Buffers.{raised}
use Rattle.ffc_echelon.specs.Progress.{IsSumOf, AreCoefficientsOf}
use Rattle.ffc_echelon.proofs.CoordinateLemmas.{coordinate-here, coordinate-before}
use Rattle.ffc_echelon.proofs.Combining.{sum_in-raised}
use Rattle.ffc_echelon.proofs.Congruences.{sum_alike, negated_multiple}

-- an input, less what was subtracted from it
pub rest_is_sum : (p : ℕ) (inputs : List Coordinates) (kept : List Kept) (vector rest : Coordinates) (ms : List Multiplier) (cs ds : List ℕ) (i : ℕ) → 1 < p → slice_get inputs i ≡ Some vector → IsRestOf p kept vector rest ms → IsSumOf p inputs kept (neg_mod p 1) ms cs → ds ≡ raised p cs i 1 → AreCoefficientsOf p inputs rest ds
rest_is_sum p inputs kept vector rest ms cs ds i two at sum less is = record {
  long = ap length is ∙ length-set cs i (add_mod p (get_or cs i 0) 1) ∙ less.long;
  sum = λ k.
      let x = coordinate vector k in
      let r = coordinate rest k in
      let m = multiple_in kept ms k in
      ap (λ l. sum_in l inputs k % p) is
      ∙ sum_in-raised p cs inputs i 1 k vector at (let within = slice_get_within inputs i vector at in omega (arith, within, less.long))
      ∙ sum_alike p (sum_in cs inputs k) (neg_mod p 1 * m) (1 * x) (r + m) (less.sum k)
      (ap (λ n. n % p) (let same : 1 * x ≡ x = omega arith in same) ∙ sym (sum.sum k))
      ∙ ap (λ n. n % p) (let same : neg_mod p 1 * m + (r + m) ≡ r + (neg_mod p 1 * m + 1 * m) = omega arith in same)
      ∙ sum_alike p r r (neg_mod p 1 * m + 1 * m) 0 refl (negated_multiple p 1 m (omega arith) ∙ sym (zero-mod p))
      ∙ ap (λ n. n % p) (let same : r + 0 ≡ r = omega arith in same);
}

pub constant_is_contradiction : (p n : ℕ) (inputs : List Coordinates) (rest : Coordinates) (e : ℕ × ℕ) (v : Coordinates) (cs : List ℕ) → rest ≡ e ∷ v → AreCoordinates p rest → IsBelow (n + 1) rest → n ≤ e.0 → AreCoefficientsOf p inputs rest cs → IsContradiction p n inputs cs
constant_is_contradiction p n inputs rest e v cs is valid below past sum =
    let here : AreCoordinates p (e ∷ v) = subst (AreCoordinates p) is valid in
    let last : e.0 < n + 1 = All-head (λ e. e.0 < n + 1) e v (subst (IsBelow (n + 1)) is below) in
    record {
      long = sum.long;
      unknowns = λ k less.
          sum.sum k
          ∙ ap (λ u. coordinate u k % p) is
          ∙ ap (λ x. x % p) (coordinate-before p n (e ∷ v) k (past, here.1, here.2, here.3) less)
          ∙ zero-mod p;
      constant = λ zero.
          let value : e.1 ≡ sum_in cs inputs n % p =
          sym (mod-eq_of_lt here.2) ∙ ap (λ x. x % p) (sym (coordinate-here e v n (omega arith))) ∙ ap (λ u. coordinate u n % p) (sym is) ∙ sym (sum.sum n) in
          let some = here.1 in
          omega (arith, value, zero, some);
    }

-- the sum of inputs that was subtracted
pub combination_is_sum : (p : ℕ) (inputs : List Coordinates) (kept : List Kept) (vector rest : Coordinates) (ms : List Multiplier) (cs : List ℕ) (scale : ℕ) → scale ≡ 1 → IsRestOf p kept vector rest ms → IsSumOf p inputs kept scale ms cs → IsCombination p inputs vector rest cs
combination_is_sum p inputs kept vector rest ms cs scale one sum is = record {
  long = is.long;
  sum = λ k.
      let m = multiple_in kept ms k in
      sum_alike p (coordinate rest k) (coordinate rest k) (sum_in cs inputs k) m refl
      (is.sum k ∙ ap (λ n. n % p) (ap (λ s. s * m) one ∙ (let same : 1 * m ≡ m = omega arith in same)))
      ∙ sum.sum k;
}
