use Rattle.std.proofs.Common.{◌<◌, length, ap, ◌∙◌, ◌==◌, if◌then◌else◌, arith}
use Rattle.ffc_search.proofs.ZeroLemmas.{point_set}
use Rattle.ffc_search.proofs.points.set_coordinate.Goals as goal

pub returns : goal.returns
returns g c = λ y.
    let value = g.F.Field.value in
    let x = c.args.x in
    let inside : x < length c.fill_to.new.point.items = omega (arith, c.in_ok-fill_to.ensures.long, c.fill_to.new.point.ok.0) in
    point_set value c.fill_to.new.point.items x c.args.value y inside
    ∙ ap (λ n. if y == x then value c.args.value else n) (c.in_ok-fill_to.ensures.same y)
