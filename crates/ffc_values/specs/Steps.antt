-- What a step of writing sums leaves to be written.
use Rattle.std.specs.Prelude.{◌≡◌, List, ◌++◌}
use Rattle.ffc_trees.specs.TreeLines.{Multiple}
use Rattle.ffc_values.specs.declared.sums.Sums.{Sums}
use Rattle.ffc_values.specs.Written.{written_with}

-- Whatever multiples follow, the lines with what is left are the lines before with all.
pub record Remains (all left : List Multiple) (old new : Sums) : Type 0 where
  pub first : new.first ≡ old.first
  pub tree : (ms : List Multiple) → written_with new (left ++ ms) ≡ written_with old (all ++ ms)
