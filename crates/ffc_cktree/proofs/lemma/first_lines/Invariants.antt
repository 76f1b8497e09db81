use Rattle.std.proofs.Common.{◌≡◌, ◌+◌, length, take}
use Rattle.ffc_trees.specs.FirstLines.{first_lines_from}
use Rattle.ffc_trees.specs.Same.{AreSameLines}
use Rattle.ffc_cktree.specs.Lines.{AreLines}
use Rattle.ffc_cktree.proofs.lemma.first_lines.Given as goal

abbrev pub invariant-loop-lit : goal.invariant-loop-lit
invariant-loop-lit g l = record {
  nodes : l.polys ≡ l.fn.polys;
  number : l.w ≡ length l.fn.polys + l.lit-index;
  same : AreSameLines g.F.Field.ORDER l.lines.items (first_lines_from g.F.Field.ORDER l.fn.polys (length l.fn.polys) (take l.lit-index l.lits));
  are : AreLines g.F.Field.ORDER l.lines.items;
}
