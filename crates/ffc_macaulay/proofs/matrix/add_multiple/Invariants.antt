use Rattle.std.proofs.Common.{◌≡◌, ℕ, ◌+◌, ◌%◌, ◌++◌, [], ◌∷◌, map, take, get_or}
use Rattle.ffc_ring.specs.Monomial.{Monomial, mono_mul}
use Rattle.ffc_ring.proofs.PolynomialLemmas.{weighted}
use Rattle.ffc_macaulay.specs.Matrix.{weight_of}
use Rattle.ffc_macaulay.proofs.matrix.add_multiple.Given as goal

abbrev pub invariant-loop-i : goal.invariant-loop-i
invariant-loop-i g l =
    let value = g.F.Field.value in
    (f : Monomial → ℕ) → weight_of f (l.unknowns.keys ++ [] ∷ []) (λ k. get_or (map value l.dense) k 0) % g.F.Field.ORDER
    ≡ (weight_of f (l.unknowns.keys ++ [] ∷ []) (λ k. get_or (map value l.initial.dense) k 0) + weighted (λ m. f (mono_mul l.multiplier m)) (take l.i l.generator)) % g.F.Field.ORDER
