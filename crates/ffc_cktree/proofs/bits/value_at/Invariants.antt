use Rattle.std.proofs.Common.{◌≡◌, ◌+◌, ◌%◌, drop}
use Rattle.ffc_ring.specs.Polynomial.{AreTerms, value_sum, poly_value}
use Rattle.ffc_trees.specs.BitLines.{point_of}
use Rattle.ffc_cktree.proofs.bits.value_at.Given as goal

abbrev pub invariant-loop-term : goal.invariant-loop-term
invariant-loop-term g l = record {
  terms_are : AreTerms (drop l.term-index l.written);
  so_far : (g.F.Field.value l.sum + value_sum (point_of l.ones) (drop l.term-index l.written)) % g.F.Field.ORDER ≡ poly_value g.F.Field.ORDER (point_of l.ones) l.written;
}
