use Rattle.std.proofs.Common.{◌≡◌, ℕ, take, if◌then◌else◌}
use Rattle.ffc_basis.specs.Indexing.{listed, has_variable, without_last}
use Rattle.ffc_basis.proofs.index.drop_from_all.Given as goal

abbrev pub invariant-loop-power : goal.invariant-loop-power
invariant-loop-power l =
    (y : ℕ) → listed l.lists y ≡ (if has_variable y (take l.power-index l.powers) then without_last (listed l.fn.lists y) else listed l.fn.lists y)
