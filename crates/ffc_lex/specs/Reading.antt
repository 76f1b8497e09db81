-- How a text is read: its forms in order, and how it ends. SMT-LIB 2.6, section 3.1 (lexicon) and 3.2 (a command is one
-- form, an s-expression in parentheses), with a limit on bytes and on open parentheses. Lines are counted from 1 by LF,
-- and columns from 1 by bytes since the last LF.
--
-- The forms, and a fault of a text other than that it ends inside a form, are the same however the text goes on.
use Rattle.std.specs.Prelude.{ℕ, ◌+◌, ◌-◌, zero, suc, Bool, true, ◌==◌, nat_lt, List, [], ◌∷◌, ◌++◌, length, take, if◌then◌else◌, Option, Some, None}
use Rattle.ffc_lex.specs.declared.tokens.TokenKind.{TokenKind}
use Rattle.ffc_lex.specs.declared.tokens.TokenKind.TheVariants.{LeftParen as Left, RightParen as Right, Numeral, Decimal, Symbol, Quoted, Keyword, Str, FieldLiteral}
use Rattle.ffc_lex.specs.declared.tokens.Token.{Token as TokenRecord}
use Rattle.ffc_lex.specs.declared.tokens.Place.{Place}
use Rattle.ffc_lex.specs.declared.faults.ScriptFault.{ScriptFault}
use Rattle.ffc_lex.specs.Limits.{max_bytes, max_depth}
use Rattle.ffc_lex.specs.Lexeme.{Lexeme, Skip, Token, Bad, Unended, lexeme_at, size_of}

-- the place of the next byte
abbrev pub past : ℕ → Place → Place
past c place = record {
  index = place.index + 1;
  line = if c == 10 then place.line + 1 else place.line;
  column = if c == 10 then 1 else place.column + 1;
}

-- the place after these bytes
abbrev pub place_after : List ℕ → Place → Place
place_after [] place = place
place_after (c ∷ cs) place = place_after cs (past c place)

-- where a text begins
abbrev pub origin : Place
origin = record { index = 0; line = 1; column = 1 }

abbrev pub fault_at : ℕ → Place → ScriptFault
fault_at code place = record { line = place.line; column = place.column; code = code }

abbrev pub token_at : TokenKind → ℕ → Place → TokenRecord
token_at kind length place = record { kind = kind; start = place.index; length = length; line = place.line; column = place.column }

-- the form that isn't ended: how many parentheses are open, where it begins, and its tokens so far. None is open
-- between two forms.
pub record Open : Type 0 where
  pub depth : ℕ
  pub first : Place
  pub tokens : List TokenRecord

-- between two forms
abbrev pub outside : Place → Open
outside place = record { depth = 0; first = place; tokens = [] }

-- how a text ends
pub data End : Type 0 where
  -- outside a form
  Between : End
  -- inside a form: the fault where nothing follows
  Within : ScriptFault → End
  -- with a text fault, whatever follows
  Stopped : ScriptFault → End

pub record Reading : Type 0 where
  pub forms : List (List TokenRecord)
  pub end : End

abbrev pub halted : End → Reading
halted end = record { forms = []; end = end }

abbrev pub with_form : List TokenRecord → Reading → Reading
with_form form reading = record { forms = form ∷ reading.forms; end = reading.end }

-- what comes of the bytes in front
pub data Next : Type 0 where
  -- no more is read
  Halt : End → Next
  -- so many bytes are read, and leave this open
  Move : ℕ → Open → Next
  -- one byte is read, which ends this form
  Give : List TokenRecord → Next

-- a token
abbrev pub after_token : TokenKind → ℕ → Place → Open → Next
after_token kind n place opened =
    Move n (record { depth = opened.depth; first = opened.first; tokens = opened.tokens ++ token_at kind n place ∷ [] })

-- the 65,537th open parenthesis is code 14
abbrev pub after_left : Place → Open → Next
after_left place opened =
    if opened.depth == max_depth then Halt (Stopped (fault_at 14 place)) else
    Move 1 (record {
      depth = opened.depth + 1;
      first = if opened.depth == 0 then place else opened.first;
      tokens = opened.tokens ++ token_at Left 1 place ∷ [];
    })

-- one outside a form is code 3
abbrev pub after_right : Place → Open → Next
after_right place opened =
    if opened.depth == 0 then Halt (Stopped (fault_at 3 place)) else
    if opened.depth == 1 then Give (opened.tokens ++ token_at Right 1 place ∷ []) else
    Move 1 (record { depth = opened.depth - 1; first = opened.first; tokens = opened.tokens ++ token_at Right 1 place ∷ [] })

abbrev pub after_kind : TokenKind → ℕ → Place → Open → Next
after_kind Left n place opened = after_left place opened
after_kind Right n place opened = after_right place opened
after_kind Numeral n place opened = after_token Numeral n place opened
after_kind Decimal n place opened = after_token Decimal n place opened
after_kind Symbol n place opened = after_token Symbol n place opened
after_kind Quoted n place opened = after_token Quoted n place opened
after_kind Keyword n place opened = after_token Keyword n place opened
after_kind Str n place opened = after_token Str n place opened
after_kind FieldLiteral n place opened = after_token FieldLiteral n place opened

-- The text ends inside a form: code 1 at a word, colon or # that is no token, else code 2 at the form's first byte.
abbrev pub unended : Bool → Place → Open → End
unended whole place opened =
    if opened.depth == 0 then Between else
    Within (if whole then fault_at 2 opened.first else fault_at 1 place)

unfoldable pub after_lexeme : Lexeme → List ℕ → Place → Open → Next
after_lexeme (Skip n) bytes place opened = Move n opened
after_lexeme (Token kind n) bytes place opened = after_kind kind n place opened
after_lexeme (Bad n size) bytes place opened = Halt (Stopped (fault_at 1 (place_after (take n bytes) place)))
after_lexeme (Unended whole) bytes place opened = Halt (unended whole place opened)

-- What would hold the byte past the limit isn't judged: that byte is code 17.
unfoldable pub next_at : List ℕ → Place → Open → Next
next_at bytes place opened =
    let lexeme = lexeme_at opened.depth bytes in
    if nat_lt max_bytes (place.index + size_of bytes lexeme)
    then Halt (Stopped (fault_at 17 (place_after (take (max_bytes - place.index) bytes) place)))
    else after_lexeme lexeme bytes place opened

-- The reading of the bytes from a place on: so many of them belong to what was read before.
unfoldable pub read : List ℕ → ℕ → Place → Open → Reading
read [] behind place opened = halted (unended true place opened)
read (c ∷ cs) (suc behind) place opened = read cs behind (past c place) opened
read (c ∷ cs) zero place opened =
    elim (next_at (c ∷ cs) place opened) [
      | Halt end ↦ halted end
      | Move n left ↦ read cs (n - 1) (past c place) left
      | Give form ↦ with_form form (read cs 0 (past c place) (outside (past c place)))
    ]

-- the reading of a text
unfoldable pub reading_of : List ℕ → Reading
reading_of text = read text 0 origin (outside origin)

-- the text's forms, each of them its tokens
abbrev pub forms_of : List ℕ → List (List TokenRecord)
forms_of text = (reading_of text).forms

-- the text fault, whatever follows the text
abbrev pub stop_fault : End → Option ScriptFault
stop_fault Between = None
stop_fault (Within fault) = None
stop_fault (Stopped fault) = Some fault

abbrev pub fault_of : List ℕ → Option ScriptFault
fault_of text = stop_fault (reading_of text).end

-- the fault that only the end of the text raises
abbrev pub within_fault : End → Option ScriptFault
within_fault Between = None
within_fault (Within fault) = Some fault
within_fault (Stopped fault) = None

abbrev pub end_fault_of : List ℕ → Option ScriptFault
end_fault_of text = within_fault (reading_of text).end
