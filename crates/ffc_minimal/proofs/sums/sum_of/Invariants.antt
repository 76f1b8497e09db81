use Rattle.std.proofs.Common.{take, length}
use Rattle.ffc_ring.specs.Polynomial.{SamePolynomial}
use Rattle.ffc_line.specs.Lines.{polys_of, combination, AreBefore}
use Rattle.ffc_minimal.proofs.sums.sum_of.Given as goal

abbrev pub invariant-loop-part : goal.invariant-loop-part
invariant-loop-part g l = record {
  sum : SamePolynomial g.F.Field.ORDER l.sum (combination (polys_of l.lines) (take l.part-index l.parts));
  before : AreBefore (length l.lines) (take l.part-index l.parts);
}
