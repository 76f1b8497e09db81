-- The items of a line, each with what may stand in its place: one word, or a number in a range. It is the same text as in
-- Spelling, item by item, and the same ranges as in Ranges. A line that is read from the left may have right items up to a
-- place and others after it.
use Rattle.std.specs.Prelude.{◌≡◌, ℕ, ◌+◌, ◌^◌, ◌<◌, ◌≤◌, ◌⊎◌, ◌↔◌, ◌&&◌, Bool, true, false, nat_lt, if◌then◌else◌, List, [], ◌∷◌, ◌++◌, length, Option, Some, None, codes, decimal}
use Rattle.std.specs.List.{AllByRecursion, flat_map}
use Rattle.std.specs.Str.Parse.{digits_value}
use Rattle.ffc_cert.specs.declared.entries.Entry.{Entry}
use Rattle.ffc_cert.specs.declared.entries.Entry.TheVariants.{Sat, UnsatCases, UnsatSteps, Unknown}
use Rattle.ffc_cert.specs.declared.entries.Cause.{Cause}
use Rattle.ffc_cert.specs.declared.entries.Cause.TheVariants.{Degree, Terms, Steps, Memory}
use Rattle.ffc_cert.specs.declared.entries.CertLine.{CertLine}
use Rattle.ffc_cert.specs.declared.entries.CertLine.TheVariants.{Assume, Scheme, Hinted, Lemma, Combine, Bits, Chain, Step, Split, Values, Close}
use Rattle.ffc_cert.specs.Items.{is_digits, is_canonical}
use Rattle.ffc_cert.specs.Spelling.{line_items, value_line, entry_text, clauses}
use Rattle.ffc_cert.specs.Ranges.{IsLine, IsValue}
use Rattle.ffc_cert.specs.WellFormed.{IsWellFormed}

pub data Item : Type 0 where
  -- this word
  Word : (word : List ℕ) → Item
  -- a number below a limit
  Below : (limit value : ℕ) → Item
  -- a literal
  Signed : (literal : Bool × ℕ) → Item
  -- a variable, which is not below a number
  Variable : (least value : ℕ) → Item
  -- an exponent, which is not 0
  Exponent : (value : ℕ) → Item

abbrev pub item_text : Item → List ℕ
item_text (Word word) = word
item_text (Below limit n) = decimal n
item_text (Signed l) = (if l.0 then 43 else 45) ∷ decimal l.1
item_text (Variable least n) = decimal n
item_text (Exponent n) = decimal n

-- it may stand in its place
abbrev pub IsRight : Item → Type 0
IsRight (Word word) = Unit {0}
IsRight (Below limit n) = n < limit
IsRight (Signed l) = l.1 < 2 ^ 32
IsRight (Variable least n) = (least ≤ n) × (n < 2 ^ 32)
IsRight (Exponent n) = (0 < n) × (n < 2 ^ 32)

-- digits that are not the one spelling of a number below a limit
abbrev pub AreBadDigits : ℕ → List ℕ → Type 0
AreBadDigits limit digits = (is_digits digits ≡ true) × ((is_canonical digits && nat_lt (digits_value 10 digits) limit) ≡ false)

-- In the place of an item that is a number, or has one after its sign, these bytes have digits that are not right.
abbrev pub IsBadNumber : Item → List ℕ → Type 0
IsBadNumber (Word word) item = ⊥
IsBadNumber (Below limit n) item = AreBadDigits limit item
IsBadNumber (Signed l) [] = ⊥
IsBadNumber (Signed l) (c ∷ digits) = ((c ≡ 43) ⊎ (c ≡ 45)) × AreBadDigits (2 ^ 32) digits
IsBadNumber (Variable least n) item = AreBadDigits (2 ^ 32) item
IsBadNumber (Exponent n) item = AreBadDigits (2 ^ 32) item

-- each item after a space
abbrev pub spaced : List Item → List ℕ
spaced [] = []
spaced (x ∷ items) = 32 ∷ (item_text x ++ spaced items)

abbrev pub narrow : ℕ → List Item
narrow n = Below (2 ^ 32) n ∷ []

abbrev pub wide : ℕ → List Item
wide n = Below (2 ^ 64) n ∷ []

abbrev pub signed : Bool × ℕ → List Item
signed l = Signed l ∷ []

-- how many, and then each
abbrev pub counted_items : {A : Type 0} → (A → List Item) → List A → List Item
counted_items f xs = narrow (length xs) ++ flat_map f xs

-- variables that increase, with their exponents
abbrev pub power_items : ℕ → ℕ × ℕ → List Item
power_items least p = Variable least p.0 ∷ Exponent p.1 ∷ []

abbrev pub powers_items : ℕ → List (ℕ × ℕ) → List Item
powers_items least [] = []
powers_items least (p ∷ powers) = power_items least p ++ powers_items (p.0 + 1) powers

-- variables that increase
abbrev pub variables_items : ℕ → List ℕ → List Item
variables_items least [] = []
variables_items least (x ∷ variables) = Variable least x ∷ variables_items (x + 1) variables

abbrev pub term_items : ℕ × List (ℕ × ℕ) → List Item
term_items t = wide t.0 ++ (narrow (length t.1) ++ powers_items 0 t.1)

abbrev pub multiple_items : ℕ × List (ℕ × List (ℕ × ℕ)) → List Item
multiple_items m = narrow m.0 ++ counted_items term_items m.1

abbrev pub order_items : Option ℕ → List Item
order_items None = []
order_items (Some order) = wide order

-- a line of a clause or a tree
abbrev pub items_of : CertLine → List Item
items_of (Assume k) = Word (codes "a") ∷ narrow k
items_of (Scheme node scheme index) = Word (codes "n") ∷ (narrow node ++ (narrow scheme ++ narrow index))
items_of (Hinted lits hints) = Word (codes "r") ∷ (counted_items signed lits ++ counted_items narrow hints)
items_of (Lemma order lits) = Word (codes "f") ∷ (order_items order ++ counted_items signed lits)
items_of (Combine multiples) = Word (codes "c") ∷ counted_items multiple_items multiples
items_of (Bits line chosen polynomial bits) =
    Word (codes "b") ∷ (narrow line ++ ((narrow (length chosen) ++ variables_items 0 chosen) ++ (counted_items term_items polynomial ++ counted_items narrow bits)))
items_of (Chain line variable steps) = Word (codes "p") ∷ (narrow line ++ (narrow variable ++ narrow steps))
items_of (Step quotient remainder) = Word (codes "u") ∷ (counted_items wide quotient ++ counted_items wide remainder)
items_of (Split line variable zeros) = Word (codes "s") ∷ (narrow line ++ (narrow variable ++ counted_items wide zeros))
items_of (Values variable trees) = Word (codes "v") ∷ (narrow variable ++ narrow trees)
items_of Close = Word (codes "z") ∷ []

-- a line of values
abbrev pub value_items : ℕ × ℕ → List Item
value_items v = Word (codes "=") ∷ (narrow v.0 ++ wide v.1)

abbrev pub cause_items : Cause → List Item
cause_items Degree = Word (codes "degree") ∷ []
cause_items Terms = Word (codes "terms") ∷ []
cause_items (Steps trials reductions assignments chains) = Word (codes "steps") ∷ (wide trials ++ (wide reductions ++ (wide assignments ++ wide chains)))
cause_items Memory = Word (codes "memory") ∷ []

-- the first line of an entry
abbrev pub first_items : Entry → List Item
first_items (Sat values) = Word (codes "sat") ∷ narrow (length values)
first_items UnsatCases = Word (codes "unsat") ∷ Word (codes "e") ∷ []
first_items (UnsatSteps lines) = Word (codes "unsat") ∷ narrow (clauses lines)
first_items (Unknown cause) = Word (codes "unknown") ∷ cause_items cause

-- Laws: a line is its items, each after a space, where one is put before the first; and it is right exactly where they are.

abbrev pub AreRight : List Item → Type 0
AreRight items = AllByRecursion IsRight items

abbrev pub LinesAreItems : Type 0
LinesAreItems = (l : CertLine) → (32 ∷ line_items l ≡ spaced (items_of l)) × (IsLine l ↔ AreRight (items_of l))

abbrev pub ValuesAreItems : Type 0
ValuesAreItems = (v : ℕ × ℕ) → (32 ∷ value_line v ≡ spaced (value_items v) ++ 10 ∷ []) × (IsValue v ↔ AreRight (value_items v))

-- the first line of an entry, with the lines after it
pub record IsFirstLine (items : List Item) (text : List ℕ) : Type 0 where
  pub later : List ℕ
  pub text_is : 32 ∷ text ≡ spaced items ++ (10 ∷ later)

abbrev pub FirstLinesAreItems : Type 0
FirstLinesAreItems = (version : ℕ) (entry : Entry) → IsFirstLine (first_items entry) (entry_text entry) × (IsWellFormed version entry → AreRight (first_items entry))
