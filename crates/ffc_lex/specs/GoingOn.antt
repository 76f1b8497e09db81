-- What is judged of a text so far holds however it goes on: its forms are the first ones, and its text fault, if there
-- is one, is the fault.
use Rattle.std.specs.Prelude.{◌≡◌, List, ◌++◌, ℕ}
use Rattle.ffc_lex.specs.declared.tokens.Token.{Token}
use Rattle.ffc_lex.specs.declared.faults.ScriptFault.{ScriptFault}
use Rattle.ffc_lex.specs.Reading.{Reading, Stopped, reading_of}

-- a reading of the front of a text, and one of the whole
pub record IsFront (front whole : Reading) : Type 0 where
  pub rest : List (List Token)
  pub forms : whole.forms ≡ front.forms ++ rest
  pub fault : (fault : ScriptFault) → front.end ≡ Stopped fault → whole ≡ front

abbrev pub GoesOn : Type 0
GoesOn = (text more : List ℕ) → IsFront (reading_of text) (reading_of (text ++ more))
