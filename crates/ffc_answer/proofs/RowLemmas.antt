-- Numbers in the rows, in decimal.
use Rattle.std.proofs.Common.{◌≡◌, [], ◌∷◌, lit<}
use Rattle.std.specs.Prelude.{decimal}
use Rattle.std.proofs.lemmas.Fmt.{decimal_digit}

pub zero_text : decimal 0 ≡ 48 ∷ []
zero_text = decimal_digit 0 (lit< tt)

pub one_text : decimal 1 ≡ 49 ∷ []
one_text = decimal_digit 1 (lit< tt)

pub two_text : decimal 2 ≡ 50 ∷ []
two_text = decimal_digit 2 (lit< tt)

pub three_text : decimal 3 ≡ 51 ∷ []
three_text = decimal_digit 3 (lit< tt)

pub five_text : decimal 5 ≡ 53 ∷ []
five_text = decimal_digit 5 (lit< tt)

pub eight_text : decimal 8 ≡ 56 ∷ []
eight_text = decimal_digit 8 (lit< tt)

pub nine_text : decimal 9 ≡ 57 ∷ []
nine_text = decimal_digit 9 (lit< tt)
