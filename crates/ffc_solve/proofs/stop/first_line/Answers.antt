use Rattle.std.proofs.Common.{◌≡◌, [], ◌∷◌, ◌++◌, codes, sym, ap, subst, arith}
use Rattle.std.proofs.lemmas.Fmt.{decimal_digit}
use Rattle.ffc_cert.specs.Spelling.{header}
use Rattle.ffc_trials.specs.Versions.{written_version}
use Rattle.ffc_solve.proofs.stop.first_line.Goals as goal

-- the first lines with their digits
header_two : codes "ffcert 2" ++ 10 ∷ [] ≡ header 2
header_two = ap (λ digits. codes "ffcert " ++ digits ++ 10 ∷ []) (sym (decimal_digit 2 (omega arith)))

header_three : codes "ffcert 3" ++ 10 ∷ [] ≡ header 3
header_three = ap (λ digits. codes "ffcert " ++ digits ++ 10 ∷ []) (sym (decimal_digit 3 (omega arith)))

pub returns-then-bits : goal.returns-then-bits
returns-then-bits c = subst (λ bits. codes "ffcert 3" ++ 10 ∷ [] ≡ header (written_version bits)) (sym c.if-bits.true) header_three

pub returns-else-bits : goal.returns-else-bits
returns-else-bits c = subst (λ bits. codes "ffcert 2" ++ 10 ∷ [] ≡ header (written_version bits)) (sym c.if-bits.false) header_two
