-- How far a script is read: what its reader is to its callers.
use Rattle.std.specs.Prelude.{ℕ, Bool, List, [], ◌∷◌, ◌++◌, Option, Some, None}
use Rattle.ffc_smt.specs.Trees.{Word, Tree, tree_of}
use Rattle.ffc_smt.specs.Terms.{Command}
use Rattle.ffc_smt.specs.Faults.{Read, Sound, Faulty}
use Rattle.ffc_smt.specs.CommandReading.{limits, command_read}
use Rattle.ffc_smt.specs.Scripts.{Step}
use Rattle.ffc_elab.specs.Histories.{Known, first_known, known_after, known_of}

pub record Progress : Type 0 where
  -- the text so far, up to the first byte past the limit
  pub text : List ℕ
  -- the words of the forms whose commands were given, the oldest first
  pub forms : List (List Word)
  -- whether `exit` was given or a call has stopped
  pub over : Bool

abbrev pub step_read : Known → Tree → Read Command → List Step
step_read k t (Sound c) = record { before = k.state; tree = t; command = c } ∷ []
step_read k t (Faulty f fs) = []

abbrev pub step_with : Known → Option Tree → List Step
step_with k None = []
step_with k (Some t) = step_read k t (command_read limits k.state t)

-- the commands of forms, where this is known before them
unfoldable pub steps_from : Known → List (List Word) → List Step
steps_from k [] = []
steps_from k (form ∷ forms) = step_with k (tree_of form) ++ steps_from (known_after k form) forms

-- the commands that were given, the oldest first
abbrev pub steps_of : Progress → List Step
steps_of p = steps_from first_known p.forms

-- what they leave
abbrev pub known_at : Progress → Known
known_at p = known_of p.forms
