-- Numbers at the front of bytes, and where an item ends.
use Rattle.std.specs.Prelude.{◌≡◌, ℕ, true, List, [], ◌∷◌, ◌++◌}
use Rattle.std.specs.Char.{is_ascii_digit}
use Rattle.std.specs.List.{list_all}
use Rattle.std.specs.Str.Parse.{digits_value}
use Rattle.ffc_cert.specs.Items.{is_canonical}

-- what may come after an item
abbrev pub IsCut : List ℕ → Type 0
IsCut [] = Unit {0}
IsCut (c ∷ bytes) = c ≡ 32

-- bytes begin with the one spelling of a number, after which the item ends
pub record BeginsWith (bytes : List ℕ) (n : ℕ) (rest : List ℕ) : Type 0 where
  pub digits : List ℕ
  pub are_digits : list_all is_ascii_digit digits ≡ true
  pub canonical : is_canonical digits ≡ true
  pub value : n ≡ digits_value 10 digits
  pub cut : IsCut rest
  pub bytes_are : bytes ≡ digits ++ rest
