use Rattle.std.proofs.Common.{take}
use Rattle.ffc_casetree.proofs.RangeLemmas.{ArePowers}
use Rattle.ffc_casetree.proofs.fitting.is_monomial.Given as goal

abbrev pub invariant-loop-power : goal.invariant-loop-power
invariant-loop-power l = ArePowers l.least (take l.power-index l.powers)
