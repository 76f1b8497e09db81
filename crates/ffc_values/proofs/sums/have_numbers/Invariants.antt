use Rattle.std.proofs.Common.{All, take}
use Rattle.ffc_cert.specs.Ranges.{IsNarrow}
use Rattle.ffc_values.proofs.sums.have_numbers.Given as goal

abbrev pub invariant-loop-power : goal.invariant-loop-power
invariant-loop-power l = All (λ f. IsNarrow f.0) (take l.power-index l.powers)
