use Rattle.std.proofs.Common.{◌≡◌, ◌≤◌, ◌^◌, take, MatchOption}
use Rattle.ffc_smt.specs.Numbers as numbers
use Rattle.ffc_parts.proofs.numbers.size_of_digits.Given as goal

abbrev pub invariant-loop-digit : goal.invariant-loop-digit
invariant-loop-digit l =
    MatchOption l.size (2 ^ 128 ≤ numbers.number_of (take l.digit-index l.digits)) (λ n. n ≡ numbers.number_of (take l.digit-index l.digits))
