use Rattle.std.proofs.Common.{◌≡◌, ◌++◌, take, drop}
use Rattle.ffc_ring.specs.Polynomial.{SamePolynomial}
use Rattle.ffc_trees.specs.NodePolynomials.{node_polys}
use Rattle.ffc_ckpoly.specs.Parts.{weighted, owed}
use Rattle.ffc_ckpoly.specs.Opening.{waiting_ids}
use Rattle.ffc_ckpoly.proofs.opening.push_weighted.Given as goal

abbrev pub invariant-loop-id : goal.invariant-loop-id
invariant-loop-id g l =
    let value = g.F.Field.value in
    let p = g.F.Field.ORDER in
    let polys = node_polys l.table in
    record {
      nodes : waiting_ids l.waiting.items ≡ waiting_ids l.initial.waiting.items ++ take l.id-index l.ids;
      owed : SamePolynomial p (owed value polys l.waiting.items ++ weighted (value l.weight) (value l.ratio) polys (drop l.id-index l.ids))
          (owed value polys l.initial.waiting.items ++ weighted (value l.fn.first) (value l.ratio) polys l.ids);
    }
