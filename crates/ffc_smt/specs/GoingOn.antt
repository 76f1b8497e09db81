-- How a script goes on where its text does: what its forms so far say stays, and the next ones are read from the state
-- that they leave.
use Rattle.std.specs.Prelude.{◌≡◌, ℕ, List, [], ◌∷◌, ◌++◌, Contains}
use Rattle.ffc_lex.specs.declared.tokens.Token.{Token}
use Rattle.ffc_lex.specs.declared.faults.ScriptFault.{ScriptFault}
use Rattle.ffc_lex.specs.Reading.{Stopped, forms_of, reading_of}
use Rattle.ffc_smt.specs.Trees.{Tree, form_tree}
use Rattle.ffc_smt.specs.Terms.{Exit}
use Rattle.ffc_smt.specs.Scopes.{State, first_state}
use Rattle.ffc_smt.specs.Faults.{Sound, Faulty, first_fault}
use Rattle.ffc_smt.specs.CommandReading.{Limits, command_read}
use Rattle.ffc_smt.specs.Scripts.{Step, Script, End, Done, ended, with_step, end_at, end_of_text, after, script_from, trees_of, reads_within}

-- what some forms say from a state on
pub data Run : Type 0 where
  -- all are commands, and leave this state
  Going : List Step → State → Run
  -- one of them is at fault or ends the script
  Over : Script → Run

abbrev pub after_step : Step → Run → Run
after_step x (Going xs s) = Going (x ∷ xs) s
after_step x (Over script) = Over (with_step x script)

unfoldable pub run_from : Limits → State → List Tree → Run
run_from l s [] = Going [] s
run_from l s (t ∷ ts) =
    elim (command_read l s t) [
      | Faulty f fs ↦ Over (ended (end_at (first_fault f fs)))
      | Sound Exit ↦ Over (with_step (record { before = s; tree = t; command = Exit }) (ended Done))
      | Sound c ↦ after_step (record { before = s; tree = t; command = c }) (run_from l (after s t c) ts)
    ]

-- the forms of a text so far
abbrev pub run_of : Limits → List ℕ → Run
run_of l text = run_from l first_state (trees_of text (forms_of text))

abbrev pub with_steps : List Step → Script → Script
with_steps [] script = script
with_steps (x ∷ xs) script = with_step x (with_steps xs script)

-- what follows is read from the state that is left
abbrev pub goes_on : Run → (State → Script) → Script
goes_on (Going xs s) next = with_steps xs (next s)
goes_on (Over script) next = script

abbrev pub runs_on : Run → (State → Run) → Run
runs_on (Going [] s) next = next s
runs_on (Going (x ∷ xs) s) next = after_step x (runs_on (Going xs s) next)
runs_on (Over script) next = Over script

-- the steps of what was run
abbrev pub steps_of : Run → List Step
steps_of (Going xs s) = xs
steps_of (Over script) = script.steps

pub record ReadingGoesOn : Type 0 where
  -- the tree of a form stays
  pub tree : (text more : List ℕ) (form : List Token) → Contains (forms_of text) form → form_tree (text ++ more) form ≡ form_tree text form
  -- a script is its first forms, and then what follows them
  pub script : (l : Limits) (s : State) (ts us : List Tree) (end : End) → script_from l s (ts ++ us) end ≡ goes_on (run_from l s ts) (λ now. script_from l now us end)
  pub run : (l : Limits) (s : State) (ts us : List Tree) → run_from l s (ts ++ us) ≡ runs_on (run_from l s ts) (λ now. run_from l now us)
  -- what a text says is its forms, and then its end
  pub whole : (l : Limits) (text : List ℕ) → reads_within l text ≡ goes_on (run_of l text) (λ now. ended (end_of_text (reading_of text).end))
  -- A longer text says what its front says, and then more, from the state that this leaves. It says no more where the
  -- front is at fault or ends the script.
  pub longer : (l : Limits) (text more : List ℕ)
      → (us : List Tree) × (reads_within l (text ++ more) ≡ goes_on (run_of l text) (λ now. script_from l now us (end_of_text (reading_of (text ++ more)).end)))
  -- so its steps begin with those of the front
  pub steps : (l : Limits) (text more : List ℕ) → (rest : List Step) × ((reads_within l (text ++ more)).steps ≡ (reads_within l text).steps ++ rest)
  -- a text that is at fault as a text is at this fault however it goes on
  pub stopped : (l : Limits) (text more : List ℕ) (fault : ScriptFault) → (reading_of text).end ≡ Stopped fault → reads_within l (text ++ more) ≡ reads_within l text
