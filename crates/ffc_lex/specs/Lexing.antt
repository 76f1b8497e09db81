-- What a lexer is to its callers: the text that has come so far, how many of its forms were given, and the fault that
-- is kept, if one was met. What the text's forms and faults are is said by Reading, of the whole text.
use Rattle.std.specs.Prelude.{◌≡◌, ℕ, ◌+◌, zero, suc, Bool, List, [], ◌++◌, take, Option, Some, None, MatchOption, slice_get, unwrap_or, Contains}
use Rattle.ffc_lex.specs.declared.tokens.Token.{Token}
use Rattle.ffc_lex.specs.declared.faults.ScriptFault.{ScriptFault}
use Rattle.ffc_lex.specs.declared.faults.LexStop.{LexStop}
use Rattle.ffc_lex.specs.declared.faults.LexStop.TheVariants.{Fault, Memory}
use Rattle.ffc_lex.specs.Limits.{max_bytes}
use Rattle.ffc_lex.specs.Reading.{forms_of, fault_of, end_fault_of}

pub record Lexing : Type 0 where
  -- the text so far, up to the first byte past the limit
  pub text : List ℕ
  pub given : ℕ
  pub fault : Option ScriptFault
  pub finished : Bool

-- The text with a piece after it. What follows the first byte past the limit is ignored.
abbrev pub extended : List ℕ → List ℕ → List ℕ
extended text piece = take (max_bytes + 1) (text ++ piece)

-- the next form of a text of which so many were given
abbrev pub next_form_of : List ℕ → ℕ → Option (List Token)
next_form_of text given = slice_get (forms_of text) given

-- the fault that is to be answered now: the kept one, else the text's, once each of its forms was given
abbrev pub fault_behind : Option (List Token) → List ℕ → Option ScriptFault
fault_behind None text = fault_of text
fault_behind (Some form) text = None

abbrev pub due_fault : Option ScriptFault → List ℕ → ℕ → Option ScriptFault
due_fault (Some fault) text given = Some fault
due_fault None text given = fault_behind (next_form_of text given) text

-- the form that is to be answered now: none after a fault
abbrev pub due_form : Option ScriptFault → List ℕ → ℕ → Option (List Token)
due_form (Some fault) text given = None
due_form None text given = next_form_of text given

-- the fault where the text ends here
abbrev pub end_fault : Option ScriptFault → List ℕ → Option ScriptFault
end_fault (Some fault) text = Some fault
end_fault None text = end_fault_of text

-- a fault is kept, or each form so far was given and the text so far is not at fault
abbrev pub IsRead : Lexing → Type 0
IsRead l = MatchOption l.fault ((next_form_of l.text l.given ≡ None) × (fault_of l.text ≡ None)) (λ _. Unit {0})

-- a fact where a fault was the cause, and one where memory was
abbrev pub MatchStop : LexStop → (ScriptFault → Type 0) → Type 0 → Type 0
MatchStop (Fault fault) P Q = P fault
MatchStop Memory P Q = Q

-- the last form that was given, if one was
abbrev pub last_form_of : List ℕ → ℕ → List Token
last_form_of text zero = []
last_form_of text (suc given) = unwrap_or (next_form_of text given) []

abbrev pub IsOfLastForm : Token → Lexing → Type 0
IsOfLastForm token l = Contains (last_form_of l.text l.given) token
