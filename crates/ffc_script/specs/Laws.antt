-- What holds of the definitions alone, and of every reader.
use Rattle.std.specs.Prelude.{◌≡◌, ℕ, List, ◌++◌, take}
use Rattle.ffc_smt.specs.Trees.{Tree}
use Rattle.ffc_smt.specs.CommandReading.{limits}
use Rattle.ffc_smt.specs.Scripts.{end_of_text, script_from, reads}
use Rattle.ffc_smt.specs.GoingOn.{with_steps}
use Rattle.ffc_lex.specs.Reading.{reading_of}
use Rattle.ffc_script.specs.Progress.{Progress, steps_of, known_at}

-- A text past the limit says what its front up to the first byte past the limit says.
abbrev pub LongTextsAreCut : Type 0
LongTextsAreCut = (text : List ℕ) → reads text ≡ reads (take 67108865 text)

-- However the text goes on, the rest of the script is read from the state that the commands so far leave.
abbrev pub GoesOnFrom : Progress → Type 0
GoesOnFrom p = (more : List ℕ) → (us : List Tree)
    × (reads (p.text ++ more) ≡ with_steps (steps_of p) (script_from limits (known_at p).state us (end_of_text (reading_of (p.text ++ more)).end)))
