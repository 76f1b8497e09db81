use Rattle.std.proofs.Common.{◌≡◌, ◌++◌, All, map, take}
use Rattle.ffc_trees.specs.Closing.{written_step}
use Rattle.ffc_lemmatree.specs.Written.{IsNormalPair}
use Rattle.ffc_lemmatree.proofs.roots.write_steps.Given as goal

abbrev pub invariant-loop-pair : goal.invariant-loop-pair
invariant-loop-pair g l = record {
  lines : l.lines.items ≡ l.fn.lines.items ++ map written_step (take l.pair-index l.pairs);
  normal : All (IsNormalPair g.F.Field.ORDER) (take l.pair-index l.pairs);
}
