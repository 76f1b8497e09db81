use Rattle.std.proofs.Common.{◌≡◌, take}
use Rattle.ffc_smt.specs.Numbers as numbers
use Rattle.ffc_parts.specs.Numbers.{capped}
use Rattle.ffc_parts.proofs.numbers.number_of.Given as goal

abbrev pub invariant-loop-digit : goal.invariant-loop-digit
invariant-loop-digit l = l.number ≡ capped (numbers.number_of (take l.digit-index l.digits))
