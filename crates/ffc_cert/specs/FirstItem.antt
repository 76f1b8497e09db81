-- The first item at fault in a line: with the items before it the line can still be one that may come there, and with it no
-- more. Of the lines that may come there only the items so far are asked to be right: so a line with a variable that leaves
-- no room for a greater one is at fault at the next.
use Rattle.std.specs.Prelude.{◌≡◌, ℕ, ◌+◌, ◌^◌, ◌<◌, ◌⊎◌, List, [], ◌∷◌, ◌++◌, length, codes}
use Rattle.std.specs.List.{AllByRecursion, flat_map}
use Rattle.ffc_cert.specs.declared.entries.Entry.{Entry}
use Rattle.ffc_cert.specs.declared.entries.CertLine.{CertLine}
use Rattle.ffc_cert.specs.Spelling.{number, value_line, line_text, clauses}
use Rattle.ffc_cert.specs.Ranges.{IsLine}
use Rattle.ffc_cert.specs.Grammar.{AreClauses}
use Rattle.ffc_cert.specs.WellFormed.{LineFitsVersion}
use Rattle.ffc_cert.specs.Cuts.{IsCut}
use Rattle.ffc_cert.specs.Items.{is_blank}
use Rattle.ffc_cert.specs.LineItems.{Item, AreRight, IsBadNumber, spaced, items_of, value_items, first_items}
use Rattle.std.specs.Prelude.{false}

-- The items of a line that may come after this part of an entry, right or not.
pub data MayFollow (version : ℕ) (part : List ℕ) (items : List Item) : Type 0 where
  -- the first line of an entry
  first_line : (entry : Entry) → part ≡ [] → items ≡ first_items entry → MayFollow version part items
  -- a line of values, after fewer than there are to be
  value_line_next : (values : List (ℕ × ℕ)) (left : ℕ) (v : ℕ × ℕ) → 0 < left
      → part ≡ (codes "sat" ++ number (length values + left)) ++ (10 ∷ flat_map value_line values) → items ≡ value_items v → MayFollow version part items
  -- a line of a refutation, after lines that clauses with these lines begin with
  refutation_line_next : (lines others : List CertLine) (l : CertLine) → AllByRecursion IsLine lines → AllByRecursion (LineFitsVersion version) lines → LineFitsVersion version l
      → AreClauses (lines ++ l ∷ others) → clauses (lines ++ l ∷ others) < 2 ^ 32
      → part ≡ (codes "unsat" ++ number (clauses (lines ++ l ∷ others))) ++ (10 ∷ flat_map line_text lines) → items ≡ items_of l → MayFollow version part items

-- A line that may come there begins with these bytes: items of it, each after a space, and each right.
pub record BeginsLine (version : ℕ) (part bytes : List ℕ) : Type 0 where
  pub front : List Item
  pub others : List Item
  pub follows : MayFollow version part (front ++ others)
  pub right : AreRight front
  pub bytes_are : bytes ≡ spaced front

-- After these bytes of a line a number may come, in whose place the item has digits that are not right.
pub record HasBadNumber (version : ℕ) (part before item : List ℕ) : Type 0 where
  pub front : List Item
  pub due : Item
  pub others : List Item
  pub follows : MayFollow version part (front ++ due ∷ others)
  pub right : AreRight front
  pub bytes_are : before ≡ spaced front
  pub bad : IsBadNumber due item

-- Code 3 is for a number, and code 2 for all else.
abbrev pub IsCodeOf : ℕ → List ℕ → List ℕ → List ℕ → ℕ → Type 0
IsCodeOf version part before item code = ((code ≡ 3) × HasBadNumber version part before item) ⊎ ((code ≡ 2) × (HasBadNumber version part before item → ⊥))

-- The first item of the line that is at fault, after a space as each.
pub record IsFirstItem (version : ℕ) (part line : List ℕ) (code : ℕ) : Type 0 where
  pub before : List ℕ
  pub item : List ℕ
  pub after : List ℕ
  pub line_is : 32 ∷ line ≡ before ++ (32 ∷ (item ++ after))
  pub whole : AllByRecursion (λ c. is_blank c ≡ false) item
  pub cut : IsCut after
  pub begun : BeginsLine version part before
  pub none : BeginsLine version part (before ++ (32 ∷ item)) → ⊥
  pub code_is : IsCodeOf version part before item code

-- A line has an item at fault, or it ends before an item that it needs.
pub data IsFlawed (version : ℕ) (part line : List ℕ) (code : ℕ) : Type 0 where
  at_item : IsFirstItem version part line code → IsFlawed version part line code
  at_end : BeginsLine version part (32 ∷ line) → code ≡ 2 → IsFlawed version part line code
