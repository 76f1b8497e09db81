-- Where the tokens of a form are: each after the one before it, all of them in the text, and the first is the
-- parenthesis that opens it.
use Rattle.std.specs.Prelude.{◌≡◌, ℕ, ◌+◌, ◌<◌, ◌≤◌, ◌⊎◌, List, ◌∷◌, length, All}
use Rattle.std.specs.List.{AllPairs}
use Rattle.ffc_lex.specs.declared.tokens.TokenKind.TheVariants.{LeftParen}
use Rattle.ffc_lex.specs.declared.tokens.Token.{Token}
use Rattle.ffc_lex.specs.Reading.{forms_of}

-- a line and a column, and others to the right of them or below
abbrev pub IsPlaceBefore : ℕ → ℕ → ℕ → ℕ → Type 0
IsPlaceBefore line column other_line other_column = (line < other_line) ⊎ ((line ≡ other_line) × (column < other_column))

abbrev pub IsLeftOf : Token → Token → Type 0
IsLeftOf t u = (t.start + t.length ≤ u.start) × IsPlaceBefore t.line t.column u.line u.column

pub record IsInOrder (text : List ℕ) (form : List Token) : Type 0 where
  pub places : AllPairs IsLeftOf form
  pub within : All (λ t. t.start + t.length ≤ length text) form
  pub first : Token
  pub others : List Token
  pub split : form ≡ first ∷ others
  pub opened : first.kind ≡ LeftParen

abbrev pub FormsAreInOrder : Type 0
FormsAreInOrder = (text : List ℕ) → All (IsInOrder text) (forms_of text)
