use Rattle.std.proofs.Common.{◌≡◌, ℕ, drop, map}
use Rattle.ffc_poly.specs.Ordered.{point_of}
use Rattle.ffc_search.specs.Finding.{point_at}
use Rattle.ffc_search.proofs.points.point_of.Given as goal

abbrev pub invariant-loop-place : goal.invariant-loop-place
invariant-loop-place g l =
    (x : ℕ) → point_of g.F.Field.value l.point.items x ≡ point_at (drop l.place l.vars) (map g.F.Field.value (drop l.place l.values)) x
