use Rattle.std.proofs.Common.{◌≡◌, ◌++◌, true, drop}
use Rattle.ffc_ring.specs.Polynomial.{AreTerms, SamePolynomial, product}
use Rattle.ffc_cktree.specs.Lines.{are_low}
use Rattle.ffc_cktree.proofs.sums.with_multiple.Given as goal

abbrev pub invariant-loop-term : goal.invariant-loop-term
invariant-loop-term g l = record {
  terms_are : AreTerms (drop l.term-index l.terms);
  low : are_low (drop l.term-index l.terms) ≡ true;
  so_far : SamePolynomial g.F.Field.ORDER (l.all ++ product (drop l.term-index l.terms) l.line) (l.fn.sum ++ product l.terms l.line);
}
