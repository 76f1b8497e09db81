use Rattle.std.proofs.Common.{◌≡◌, take}
use Rattle.ffc_mono.specs.Masks.{mask_of}
use Rattle.ffc_mono.proofs.powers.mask_of.Given as goal

abbrev pub invariant-loop-power : goal.invariant-loop-power
invariant-loop-power l = l.mask ≡ mask_of (take l.power-index l.powers)
