use Rattle.std.proofs.Common.{◌≡◌, ◌∙◌, [], length, map, sym, ap, subst, eqb-true}
use Rattle.std.proofs.lemmas.List.{nil_from_length}
use Rattle.ffc_echelon.specs.Forms.{IsCombination}
use Rattle.ffc_echelon.specs.Vectors.{Coordinates}
use Rattle.ffc_echelon.proofs.rests.rest_of.Goals as goal

pub returns-then-is_empty-clause-rest : goal.returns-then-is_empty-clause-rest
returns-then-is_empty-clause-rest g c = λ inputs is.
    (let value = g.F.Field.value in
    let rest : Coordinates = c.in_ok-reduction.reduction.rest in
    let coordinates = c.coordinates.result.now in
    let none : rest ≡ [] =
    sym c.coordinates.ensures.value
    ∙ ap (map (λ e. (e.0, value e.1))) (nil_from_length coordinates (eqb-true (length coordinates) 0 (sym c.is_empty.ensures ∙ c.if-is_empty.true))) in
    subst (λ r. IsCombination g.F.Field.ORDER inputs c.args.vector.now r (map value c.in_ok-coefficients.coefficients.items)) none
    (c.in_ok-coefficients.ensures inputs c.args.vector.now is c.in_ok-reduction.ensures.rest))
