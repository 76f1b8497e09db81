use Rattle.std.proofs.Common.{◌∙◌, ap, sym}
use Rattle.ffc_trees.specs.BitLines.{common_divisor}
use Rattle.ffc_cktree.proofs.ExtentLemmas.{divisor_step, divisor_end}
use Rattle.ffc_cktree.proofs.extent.common_divisor.Goals as goal

pub loop-rest-preserved : goal.loop-rest-preserved
loop-rest-preserved c = divisor_step c.loop-rest.divisor c.loop-rest.rest c.loop-rest-test.true ∙ c.loop-rest.invariant

pub returns : goal.returns
returns c = divisor_end c.loop-rest.divisor ∙ ap (common_divisor c.loop-rest.divisor) (sym c.loop-rest-test.false) ∙ c.loop-rest.invariant
