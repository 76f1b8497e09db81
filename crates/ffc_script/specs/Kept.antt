-- What a reader keeps true: the commands that were given are the first ones of the text, however it goes on.
use Rattle.std.specs.Prelude.{◌≡◌, ℕ, ◌+◌, ◌≤◌, Bool, false, List, ◌++◌, length, take, None}
use Rattle.ffc_lex.specs.Limits.{max_bytes}
use Rattle.ffc_lex.specs.Lexing.{Lexing}
use Rattle.ffc_lex.specs.Reading.{forms_of}
use Rattle.ffc_smt.specs.Trees.{Word}
use Rattle.ffc_smt.specs.Scopes.{first_state}
use Rattle.ffc_smt.specs.CommandReading.{limits}
use Rattle.ffc_smt.specs.Scripts.{Step, trees_of, reads}
use Rattle.ffc_smt.specs.GoingOn.{Going, run_from}
use Rattle.ffc_elab.specs.Histories.{Known, first_known, known_of}
use Rattle.ffc_script.specs.Progress.{steps_from}

-- these commands come first
abbrev pub AreFirst : List ℕ → List Step → Type 0
AreFirst text steps = (more : List ℕ) → (rest : List Step) × ((reads (text ++ more)).steps ≡ steps ++ rest)

-- the forms that the lexer gave are commands, and the context has taken them
pub record IsGoing (l : Lexing) (steps : List Step) (k : Known) : Type 0 where
  pub fault : l.fault ≡ None
  pub unfinished : l.finished ≡ false
  pub within : l.given ≤ length (forms_of l.text)
  pub run : run_from limits first_state (trees_of l.text (take l.given (forms_of l.text))) ≡ Going steps k.state

pub record IsKept (l : Lexing) (forms : List (List Word)) (over : Bool) : Type 0 where
  pub limit : length l.text ≤ max_bytes + 1
  pub first : AreFirst l.text (steps_from first_known forms)
  pub going : over ≡ false → IsGoing l (steps_from first_known forms) (known_of forms)
