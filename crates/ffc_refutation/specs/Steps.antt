-- What a step of writing sums leaves to be written.
use Rattle.std.specs.Prelude.{◌≡◌, List, [], ◌∷◌, ◌++◌}
use Rattle.ffc_trees.specs.TreeLines.{Multiple}
use Rattle.ffc_refutation.specs.declared.combination.Sums.{Sums}
use Rattle.ffc_refutation.specs.Written.{sums_tree}

-- Whatever multiple is put to the next sum, and whatever multiples follow, the lines with the tree of them are the same.
abbrev pub HasRoom : Sums → Sums → Type 0
HasRoom old new =
    (m : Multiple) (ms : List Multiple) → new.lines.items ++ sums_tree new.next (new.pending.items ++ m ∷ []) ms ≡ old.lines.items ++ sums_tree old.next old.pending.items (m ∷ ms)

-- Whatever multiples follow, the lines with the tree of them are the lines before with the tree of this one and them.
abbrev pub GoesOn : Multiple → Sums → Sums → Type 0
GoesOn m old new =
    (ms : List Multiple) → new.lines.items ++ sums_tree new.next new.pending.items ms ≡ old.lines.items ++ sums_tree old.next old.pending.items (m ∷ ms)
