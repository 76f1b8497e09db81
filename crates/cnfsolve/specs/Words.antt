-- The words of the DIMACS format (Challenge benchmarks of DIMACS, 1993): decimal numbers, and the literals of clauses.
use Rattle.std.specs.Prelude.{ℕ, ◌+◌, ◌-◌, ◌*◌, ◌^◌, Bool, true, false, ◌==◌, nat_lt, if◌then◌else◌, List, [], ◌∷◌, Option, Some, None}
use Rattle.std.specs.Char.{is_ascii_digit}
use Rattle.std.specs.Option.{option_and_then}
use Rattle.cnfsolve.specs.declared.words.Item.{Item}
use Rattle.cnfsolve.specs.declared.words.Item.TheVariants.{End, Literal}

-- a number below 2^32
abbrev pub fitting : ℕ → Option ℕ
fitting n = if nat_lt n (2 ^ 32) then Some n else None

-- one more decimal digit after a number
abbrev pub with_digit : ℕ → ℕ → Option ℕ
with_digit n b = if is_ascii_digit b then fitting (n * 10 + (b - 48)) else None

-- decimal digits after a number
abbrev pub number_from : ℕ → List ℕ → Option ℕ
number_from n [] = Some n
number_from n (b ∷ bs) = option_and_then (λ m. number_from m bs) (with_digit n b)

-- a number below 2^32 in decimal digits, of which there is at least one
abbrev pub number_of : List ℕ → Option ℕ
number_of [] = None
number_of (b ∷ bs) = number_from 0 (b ∷ bs)

-- the literal of a variable; variables are numbered from 1, nodes from 0
abbrev pub literal_of : Bool → ℕ → Option Item
literal_of positive n = if n == 0 then None else Some (Literal (positive, n - 1))

abbrev pub end_or_literal : ℕ → Option Item
end_or_literal n = if n == 0 then Some End else literal_of true n

-- what a word of a clause means: `0` is its end, `-` comes before a negated variable
abbrev pub item_of : List ℕ → Option Item
item_of [] = None
item_of (b ∷ bs) = if b == 45 then option_and_then (literal_of false) (number_of bs) else option_and_then end_or_literal (number_of (b ∷ bs))
