-- What a lexer keeps true of its fields: of the text it holds a window, which are the bytes after those that were dropped,
-- and the last form that was given, from its first token to the end of its last, in the window or beside it.
use Rattle.std.specs.Prelude.{◌≡◌, ℕ, ◌+◌, ◌-◌, ◌<◌, ◌≤◌, List, ◌++◌, All, length, take, drop, Option, None}
use Rattle.ffc_lex.specs.declared.faults.ScriptFault.{ScriptFault}
use Rattle.ffc_lex.specs.Limits.{max_bytes}
use Rattle.ffc_lex.specs.Lexing.{last_form_of}
use Rattle.ffc_lex.specs.Scan.{Scan, IsBetween, IsReady}

-- the bytes of a range, where the window doesn't have them
abbrev pub IsBeside : List ℕ → ℕ → List ℕ → ℕ → ℕ → Type 0
IsBeside text kept bytes start end = start < kept → bytes ≡ take (end - start) (drop start text)

-- the tokens of the last form are in a range, of which the bytes are held
pub record IsLastForm (text : List ℕ) (given kept : ℕ) (bytes : List ℕ) (start end : ℕ) : Type 0 where
  pub tokens : (more : List ℕ) → All (IsBetween start end) (last_form_of (text ++ more) given)
  pub order : start ≤ end
  pub ended : end ≤ length text
  pub beside : IsBeside text kept bytes start end

pub record IsKept (text : List ℕ) (given : ℕ) (fault : Option ScriptFault) (scanner : Scan) (held bytes : List ℕ) (start end : ℕ) : Type 0 where
  pub limit : length text ≤ max_bytes + 1
  pub ready : fault ≡ None → IsReady given text scanner
  pub window : held ≡ drop scanner.kept text
  pub form : IsLastForm text given scanner.kept bytes start end
