use Rattle.std.proofs.Common.{◌≡◌, ℕ, ◌++◌, ◌∷◌, [], take, if◌then◌else◌}
use Rattle.ffc_basis.specs.Indexing.{listed, has_variable}
use Rattle.ffc_basis.proofs.index.append_to_all.Given as goal

abbrev pub invariant-loop-count : goal.invariant-loop-count
invariant-loop-count l =
    (y : ℕ) → listed l.lists y ≡ (if has_variable y (take l.count l.powers) then listed l.fn.lists y ++ l.line ∷ [] else listed l.fn.lists y)
