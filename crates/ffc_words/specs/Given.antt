-- The last form that a lexer gave.
use Rattle.std.specs.Prelude.{◌≡◌, ℕ, suc, List, Some}
use Rattle.ffc_lex.specs.declared.tokens.Token.{Token}
use Rattle.ffc_lex.specs.Lexing.{Lexing, next_form_of}

pub record IsGiven (form : List Token) (l : Lexing) : Type 0 where
  pub before : ℕ
  pub count : l.given ≡ suc before
  pub last : next_form_of l.text before ≡ Some form
