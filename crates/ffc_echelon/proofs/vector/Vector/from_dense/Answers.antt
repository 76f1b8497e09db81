use Rattle.std.proofs.Common.{length, map, sym, ap, ◌∙◌, subst, arith}
use Rattle.std.proofs.lemmas.List.{length-map}
use Rattle.ffc_echelon.specs.Vectors.{AreCoordinates, IsBelow, coordinate}
use Rattle.ffc_echelon.proofs.Buffers.{below-nonzero_from, coordinate-nonzero, coordinates-nonzero_from, residues_below}
use Rattle.ffc_echelon.proofs.vector.Vector.from_dense.Goals as goal

pub invariant_of-result : goal.invariant_of-result
invariant_of-result g c =
    let value = g.F.Field.value in
    let p = g.F.Field.ORDER in
    let dense = c.args.dense.now in
    subst (AreCoordinates p) (sym c.in_ok-nonzero.ensures)
    (coordinates-nonzero_from p 0 (map value dense) (residues_below value p g.met.F.Field.below dense))

pub returns-clause-same : goal.returns-clause-same
returns-clause-same g c = λ k.
    let value = g.F.Field.value in
    let p = g.F.Field.ORDER in
    let dense = c.args.dense.now in
    ap (λ v. coordinate v k) c.in_ok-nonzero.ensures ∙ coordinate-nonzero p (map value dense) k (residues_below value p g.met.F.Field.below dense)

pub returns-clause-below : goal.returns-clause-below
returns-clause-below g c =
    let value = g.F.Field.value in
    let dense = c.args.dense.now in
    subst (IsBelow (length dense)) (sym c.in_ok-nonzero.ensures)
    (below-nonzero_from (length dense) 0 (map value dense) (omega (arith, length-map dense value)))
