-- Numbers in scripts: numerals (SMT-LIB 2.6, section 3.1), and the constants of fields, `ffN` and `#fNmP`.
use Rattle.std.specs.Prelude.{ℕ, ◌+◌, ◌-◌, ◌*◌, ◌^◌, ◌==◌, nat_eq, nat_lt, Bool, true, false, List, [], ◌∷◌, drop, fold, codes, if◌then◌else◌, Option, Some, None}
use Rattle.std.specs.List.{list_all, list_any, starts_with, before_first, after_first}
use Rattle.ffc_lex.specs.Bytes.{is_digit}

-- the number that digits spell
abbrev pub number_of : List ℕ → ℕ
number_of digits = fold (λ n d. 10 * n + (d - 48)) 0 digits

-- the orders of the solver's fields
abbrev pub orders : List ℕ
orders = 2 ∷ 3 ∷ 5 ∷ 17 ∷ 65537 ∷ 2013265921 ∷ 2130706433 ∷ 18446744069414584321 ∷ []

abbrev pub is_order : ℕ → Bool
is_order p = list_any (λ q. p == q) orders

-- one or more digits
abbrev pub is_number : List ℕ → Bool
is_number [] = false
is_number (d ∷ ds) = list_all is_digit (d ∷ ds)

-- a number: whether it is negative, and its size
pub record Signed : Type 0 where
  pub negative : Bool
  pub size : ℕ

-- the sizes that can be written
abbrev pub is_small : Signed → Bool
is_small n = nat_lt n.size (2 ^ 128)

-- an optional `-`, and digits
abbrev pub signed_of : List ℕ → Option Signed
signed_of [] = None
signed_of (c ∷ cs) =
    if c == 45 then (if is_number cs then Some (record { negative = true; size = number_of cs }) else None)
    else (if is_number (c ∷ cs) then Some (record { negative = false; size = number_of (c ∷ cs) }) else None)

-- the N of `ffN`
abbrev pub constant_of : List ℕ → Option Signed
constant_of name = if starts_with nat_eq name (codes "ff") then signed_of (drop 2 name) else None

-- the N and the P of `#fNmP`, which has that form
abbrev pub literal_number : List ℕ → Option Signed
literal_number bytes = signed_of (before_first (λ c. c == 109) (drop 2 bytes))

abbrev pub literal_order : List ℕ → ℕ
literal_order bytes = number_of (after_first (λ c. c == 109) bytes)
