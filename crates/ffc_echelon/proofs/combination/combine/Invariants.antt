use Rattle.std.proofs.Common.{◌≡◌, ℕ, ◌+◌, ◌*◌, ◌%◌, ◌<◌, All, List, length, map, take}
use Rattle.ffc_echelon.specs.Vectors.{Coordinates, sum_in}
use Rattle.ffc_echelon.specs.Forms.{multiple_in}
use Rattle.ffc_echelon.specs.Progress.{AreKeptOf}
use Rattle.ffc_echelon.proofs.Combining.{coordinates_in}
use Rattle.ffc_echelon.proofs.combination.combine.Given as goal

abbrev pub invariant-loop-number : goal.invariant-loop-number
invariant-loop-number g l =
    let value = g.F.Field.value in
    let p = g.F.Field.ORDER in
    let ms = map (λ m. (m.0, value m.1)) l.fn.multipliers in
    record {
      coefficients : length l.coefficients.items ≡ l.inputs;
      weights : length l.weights.items ≡ length l.rows;
      sum :
          (vectors : List Coordinates) → length vectors ≡ l.inputs → AreKeptOf p vectors l.rows → All (λ m. m.0 < length l.rows) ms
          → (k : ℕ) → (sum_in (map value l.coefficients.items) vectors k + sum_in (take l.number (map value l.weights.items)) (coordinates_in l.rows) k) % p
          ≡ (value l.fn.scale * multiple_in l.rows ms k) % p;
    }
