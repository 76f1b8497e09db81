use Rattle.std.proofs.Common.{◌≡◌, true, take}
use Rattle.std.specs.Char.{is_ascii_digit}
use Rattle.std.specs.List.{list_all}
use Rattle.std.specs.Str.Parse.{digits_value}
use Rattle.ffc_cert.proofs.items.leading_digits.Given as goal

abbrev pub invariant-loop-digit : goal.invariant-loop-digit
invariant-loop-digit l =
    (l.count ≡ l.digit-index) × (l.number ≡ digits_value 10 (take l.count l.bytes)) × (list_all is_ascii_digit (take l.count l.bytes) ≡ true)
