use Rattle.std.proofs.Common.{◌≡◌, drop}
use Rattle.std.specs.List.{list_all}
use Rattle.ffc_poly.specs.Ordered.{point_of}
use Rattle.ffc_search.specs.Finding.{is_zero_line}
use Rattle.ffc_search.proofs.points.vanish.Given as goal

abbrev pub invariant-loop-line : goal.invariant-loop-line
invariant-loop-line g l =
    list_all (is_zero_line g.F.Field.ORDER (point_of g.F.Field.value l.point)) (drop l.line-index l.lines)
    ≡ list_all (is_zero_line g.F.Field.ORDER (point_of g.F.Field.value l.point)) l.lines
