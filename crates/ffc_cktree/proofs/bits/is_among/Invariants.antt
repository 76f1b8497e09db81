use Rattle.std.proofs.Common.{◌≡◌, drop}
use Rattle.ffc_trees.specs.BitLines.{is_among}
use Rattle.ffc_cktree.proofs.bits.is_among.Given as goal

abbrev pub invariant-loop-power : goal.invariant-loop-power
invariant-loop-power l = is_among l.xs (drop l.power-index l.powers) ≡ is_among l.xs l.powers
