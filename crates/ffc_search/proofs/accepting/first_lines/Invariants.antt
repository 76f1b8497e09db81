use Rattle.std.proofs.Common.{take}
use Rattle.ffc_trees.specs.Same.{AreSameLines}
use Rattle.ffc_cktree.specs.Lines.{AreLines}
use Rattle.ffc_stack.specs.Stacks.{generators}
use Rattle.ffc_search.proofs.accepting.first_lines.Given as goal

abbrev pub invariant-loop-line : goal.invariant-loop-line
invariant-loop-line g l = record {
  same : AreSameLines g.F.Field.ORDER l.first.items (generators (take l.line-index l.lines));
  low : AreLines g.F.Field.ORDER l.first.items;
}
