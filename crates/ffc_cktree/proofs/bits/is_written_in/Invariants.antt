use Rattle.std.proofs.Common.{◌≡◌, drop}
use Rattle.ffc_trees.specs.BitLines.{is_written_in}
use Rattle.ffc_cktree.proofs.bits.is_written_in.Given as goal

abbrev pub invariant-loop-term : goal.invariant-loop-term
invariant-loop-term l = is_written_in l.order l.chosen (drop l.term-index l.written) ≡ is_written_in l.order l.chosen l.written
