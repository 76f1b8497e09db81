use Rattle.std.proofs.Common.{◌≡◌, ◌++◌, map, sym, ap, ◌∙◌, subst, arith}
use Rattle.std.proofs.lemmas.List.{append-nil, drop_all}
use Rattle.ffc_echelon.specs.Vectors.{AreCoordinates}
use Rattle.ffc_echelon.specs.Progress.{scaled}
use Rattle.ffc_echelon.proofs.CoordinateLemmas.{coordinates-scaled, products_nonzero}
use Rattle.ffc_echelon.proofs.elimination.scaled_by.Goals as goal

pub from_coordinates-requires : goal.from_coordinates-requires
from_coordinates-requires g c =
    let value = g.F.Field.value in
    let p = g.F.Field.ORDER in
    let s = value c.args.scale in
    let given = c.coordinates-given.result.now in
    let made = map (λ e. (e.0, value e.1)) c.loop-column.coordinates.items in
    let whole : made ≡ scaled p s c.args.vector.now =
    sym (append-nil made)
    ∙ ap (λ l. made ++ scaled p s (map (λ e. (e.0, value e.1)) l)) (sym (drop_all c.loop-column.column-index given c.loop-column-test.false))
    ∙ c.loop-column.invariant
    ∙ ap (scaled p s) c.coordinates-given.ensures.value in
    subst (AreCoordinates p) (sym whole)
    (coordinates-scaled p s 0 c.args.vector.now (omega (arith, g.met.F.Field.prime.least))
    (products_nonzero p s g.met.F.Field.prime (g.met.F.Field.below c.args.scale) c.requires) c.coordinates-given.ensures.valid)
