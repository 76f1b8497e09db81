use Rattle.std.proofs.Common.{◌≡◌, ◌+◌, ◌∷◌, length, sym, ap, ◌∙◌, subst, arith}
use Rattle.std.proofs.lemmas.Bool.{eqb-false}
use Rattle.ffc_echelon.specs.Forms.{leading_column}
use Rattle.ffc_echelon.specs.Vectors.{Coordinates, AreCoordinates, IsBelow, coordinate}
use Rattle.ffc_echelon.proofs.Growing.{starts_with}
use Rattle.ffc_macaulay.proofs.SolvingLemmas.{last_alone}
use Rattle.ffc_macaulay.proofs.solving.constant_of.Goals as goal

pub returns-then-first-unknowns-clause-none : goal.returns-then-first-unknowns-clause-none
returns-then-first-unknowns-clause-none g c =
    let value = g.F.Field.value in
    let given = c.coordinates-coordinates.result.now in
    let first = c.index-coordinates-0.result in
    let filled = eqb-false (length given) 0 (sym c.is_empty.ensures ∙ c.if-is_empty.false) in
    let starts = starts_with value given first (omega (arith, filled)) c.index-coordinates-0.is in
    (first.0, ap leading_column (sym c.coordinates-coordinates.ensures.value ∙ starts.1), c.if-first-unknowns.true)

pub returns-clause-same : goal.returns-clause-same
returns-clause-same g c = λ k.
    let value = g.F.Field.value in
    let p = g.F.Field.ORDER in
    let n = c.args.unknowns in
    let given = c.coordinates-coordinates.result.now in
    let first = c.index-coordinates-0.result in
    let filled = eqb-false (length given) 0 (sym c.is_empty.ensures ∙ c.if-is_empty.false) in
    let starts = starts_with value given first (omega (arith, filled)) c.index-coordinates-0.is in
    let is : c.args.vector.now ≡ (first.0, value first.1) ∷ starts.0 = sym c.coordinates-coordinates.ensures.value ∙ starts.1 in
    ap (λ (v : Coordinates). coordinate v k) is
    ∙ last_alone p n c.residue.result (first.0, value first.1) starts.0 (subst (AreCoordinates p) is c.coordinates-coordinates.ensures.valid) (subst (IsBelow (n + 1)) is c.requires)
    (omega (arith, c.if-first-unknowns.false)) c.residue.ensures.value k
