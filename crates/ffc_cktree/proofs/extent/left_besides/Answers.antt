use Rattle.std.proofs.Common.{arith}
use Rattle.ffc_ckpoly.specs.Sorted.{residues}
use Rattle.ffc_cktree.proofs.ExtentLemmas.{above_parts, below_parts}
use Rattle.ffc_cktree.proofs.extent.left_besides.Goals as goal

pub overflow_sub-result : goal.overflow_sub-result
overflow_sub-result g c =
    omega (arith, c.requires.sums.above, c.extent_among-taken.ensures.sums.above, above_parts g.F.Field.ORDER c.args.xs.now (residues g.F.Field.value c.args.terms.now))

pub overflow_sub-result-2 : goal.overflow_sub-result-2
overflow_sub-result-2 g c =
    omega (arith, c.requires.sums.below, c.extent_among-taken.ensures.sums.below, below_parts g.F.Field.ORDER c.args.xs.now (residues g.F.Field.value c.args.terms.now))

pub returns-clause-left : goal.returns-clause-left
returns-clause-left g c = record {
  extent = record {
    above = omega (arith, c.requires.sums.above, c.extent_among-taken.ensures.sums.above, above_parts g.F.Field.ORDER c.args.xs.now (residues g.F.Field.value c.args.terms.now));
    below = omega (arith, c.requires.sums.below, c.extent_among-taken.ensures.sums.below, below_parts g.F.Field.ORDER c.args.xs.now (residues g.F.Field.value c.args.terms.now));
  };
  divisor = c.divisor_besides.ensures;
}
