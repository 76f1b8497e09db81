-- The items of a line, from left to right, with the first flaw that is met. The bytes of a line are those before its LF.
use Rattle.std.specs.Prelude.{◌≡◌, ℕ, zero, suc, ◌+◌, ◌^◌, Bool, true, false, not, ◌==◌, ◌&&◌, nat_lt, List, [], ◌∷◌, length, drop, if◌then◌else◌, Result, Ok, Err}
use Rattle.std.specs.Char.{is_ascii_digit}
use Rattle.std.specs.List.{before_first, position_or_len, list_all}
use Rattle.std.specs.Str.Parse.{digits_value}
use Rattle.ffc_cert.specs.declared.flaws.Flaw.{Flaw}
use Rattle.ffc_cert.specs.declared.flaws.Flaw.TheVariants.{Form, Number, Missing}
use Rattle.ffc_cert.specs.declared.flaws.LineStop.{LineStop}
use Rattle.ffc_cert.specs.declared.flaws.LineStop.TheVariants as stops

infixl 10 ◌>>=◌
abbrev pub ◌>>=◌ : {A B : Type 0} → Result A Flaw → (A → Result B Flaw) → Result B Flaw
(Ok x) >>= f = f x
(Err e) >>= f = Err e

-- What a function read, and the bytes that it left, are what reading gives, unless memory ran out.
abbrev pub Stops : {Y : Type 0} → LineStop → Result Y Flaw → Type 0
Stops stops.Memory read = Unit {0}
Stops (stops.Flaw flaw) read = read ≡ Err flaw

abbrev pub Reads : {X : Type 0} → Result X LineStop → List ℕ → Result (X × List ℕ) Flaw → Type 0
Reads (Ok x) rest read = read ≡ Ok (x, rest)
Reads (Err stop) rest read = Stops stop read

abbrev pub Gives : {X : Type 0} → Result X LineStop → Result X Flaw → Type 0
Gives (Ok x) read = read ≡ Ok x
Gives (Err stop) read = Stops stop read

abbrev pub is_blank : ℕ → Bool
is_blank c = c == 32

-- the first item of a line, and what follows it
abbrev pub first_item : List ℕ → List ℕ
first_item bytes = before_first is_blank bytes

abbrev pub behind_item : List ℕ → List ℕ
behind_item bytes = drop (position_or_len is_blank bytes) bytes

-- the next item, which comes after a space
unfoldable pub item_at : List ℕ → Result (List ℕ × List ℕ) Flaw
item_at [] = Err Missing
item_at (c ∷ bytes) = if c == 32 then Ok (first_item bytes, behind_item bytes) else Err Form

-- no item follows
unfoldable pub ended : {A : Type 0} → A × List ℕ → Result A Flaw
ended (x, []) = Ok x
ended (x, c ∷ bytes) = Err Form

-- one digit or more
unfoldable pub is_digits : List ℕ → Bool
is_digits item = nat_lt 0 (length item) && list_all is_ascii_digit item

-- 0, or digits that don't begin with 0
unfoldable pub is_canonical : List ℕ → Bool
is_canonical [] = false
is_canonical (c ∷ []) = true
is_canonical (c ∷ d ∷ ds) = not (c == 48)

-- digits as a number below a limit
unfoldable pub number_of : ℕ → List ℕ → Result ℕ Flaw
number_of limit digits =
    if is_canonical digits && nat_lt (digits_value 10 digits) limit then Ok (digits_value 10 digits) else Err Number

-- an item as a number below a limit
unfoldable pub number_in : ℕ → List ℕ → Result ℕ Flaw
number_in limit item = if is_digits item then number_of limit item else Err Form

-- the signs of literals
unfoldable pub sign_of : ℕ → Result Bool Flaw
sign_of c = if c == 43 then Ok true else if c == 45 then Ok false else Err Form

-- an item as a literal
unfoldable pub literal_in : List ℕ → Result (Bool × ℕ) Flaw
literal_in [] = Err Form
literal_in (c ∷ item) = do
  sign ← sign_of c
  node ← number_in (2 ^ 32) item
  Ok (sign, node)

unfoldable pub number_at : ℕ → List ℕ → Result (ℕ × List ℕ) Flaw
number_at limit bytes = do
  item ← item_at bytes
  n ← number_in limit item.0
  Ok (n, item.1)

-- a number of a node, a line, a clause, a variable, and each other that has no wider range
abbrev pub narrow_at : List ℕ → Result (ℕ × List ℕ) Flaw
narrow_at = number_at (2 ^ 32)

-- a coefficient, a value, a zero, an order, a count of units
abbrev pub wide_at : List ℕ → Result (ℕ × List ℕ) Flaw
wide_at = number_at (2 ^ 64)

unfoldable pub literal_at : List ℕ → Result ((Bool × ℕ) × List ℕ) Flaw
literal_at bytes = do
  item ← item_at bytes
  literal ← literal_in item.0
  Ok (literal, item.1)

-- so many of a kind, one after the other
unfoldable pub many_at : {A : Type 0} → (List ℕ → Result (A × List ℕ) Flaw) → ℕ → List ℕ → Result (List A × List ℕ) Flaw
many_at at zero bytes = Ok ([], bytes)
many_at at (suc n) bytes = do
  first ← at bytes
  others ← many_at at n first.1
  Ok (first.0 ∷ others.0, others.1)

-- how many, and then each
unfoldable pub counted_at : {A : Type 0} → (List ℕ → Result (A × List ℕ) Flaw) → List ℕ → Result (List A × List ℕ) Flaw
counted_at at bytes = do
  n ← narrow_at bytes
  many_at at n.0 n.1

-- a variable that is not below this number
unfoldable pub variable_at : ℕ → List ℕ → Result (ℕ × List ℕ) Flaw
variable_at least bytes = do
  variable ← narrow_at bytes
  if nat_lt variable.0 least then Err Form else Ok variable

unfoldable pub exponent_at : List ℕ → Result (ℕ × List ℕ) Flaw
exponent_at bytes = do
  exponent ← narrow_at bytes
  if exponent.0 == 0 then Err Form else Ok exponent

unfoldable pub power_at : ℕ → List ℕ → Result ((ℕ × ℕ) × List ℕ) Flaw
power_at least bytes = do
  variable ← variable_at least bytes
  exponent ← exponent_at variable.1
  Ok ((variable.0, exponent.0), exponent.1)

-- so many powers of variables that increase strictly, the first not below a number
unfoldable pub powers_at : ℕ → ℕ → List ℕ → Result (List (ℕ × ℕ) × List ℕ) Flaw
powers_at least zero bytes = Ok ([], bytes)
powers_at least (suc n) bytes = do
  first ← power_at least bytes
  others ← powers_at (first.0.0 + 1) n first.1
  Ok (first.0 ∷ others.0, others.1)

-- so many variables that increase strictly, the first not below a number
unfoldable pub variables_at : ℕ → ℕ → List ℕ → Result (List ℕ × List ℕ) Flaw
variables_at least zero bytes = Ok ([], bytes)
variables_at least (suc n) bytes = do
  first ← variable_at least bytes
  others ← variables_at (first.0 + 1) n first.1
  Ok (first.0 ∷ others.0, others.1)

-- how many variables, and then each, from the lowest
unfoldable pub chosen_at : List ℕ → Result (List ℕ × List ℕ) Flaw
chosen_at bytes = do
  n ← narrow_at bytes
  variables_at 0 n.0 n.1

unfoldable pub term_at : List ℕ → Result ((ℕ × List (ℕ × ℕ)) × List ℕ) Flaw
term_at bytes = do
  coefficient ← wide_at bytes
  n ← narrow_at coefficient.1
  powers ← powers_at 0 n.0 n.1
  Ok ((coefficient.0, powers.0), powers.1)

unfoldable pub multiple_at : List ℕ → Result ((ℕ × List (ℕ × List (ℕ × ℕ))) × List ℕ) Flaw
multiple_at bytes = do
  line ← narrow_at bytes
  polynomial ← counted_at term_at line.1
  Ok ((line.0, polynomial.0), polynomial.1)
