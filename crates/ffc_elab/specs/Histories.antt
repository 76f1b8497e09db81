-- What the forms that were taken leave: the state of SMT-LIB 2.6, section 4.1, as the commands so far make it.
use Rattle.std.specs.Prelude.{List, [], fold, Option, Some, None}
use Rattle.ffc_smt.specs.Trees.{Word, Tree, tree_of}
use Rattle.ffc_smt.specs.Terms.{Asked, Command, CheckSatAssuming}
use Rattle.ffc_smt.specs.Scopes.{State, first_state, declared_of}
use Rattle.ffc_smt.specs.Faults.{Read, Sound, Faulty}
use Rattle.ffc_smt.specs.CommandReading.{limits, command_read}
use Rattle.ffc_smt.specs.Scripts.{after, check_at}
use Rattle.ffc_smt.specs.TableChecks.{TableCheck}

-- the state that the commands so far leave, and the assumptions of the last one
pub record Known : Type 0 where
  pub state : State
  pub assumptions : List Asked

abbrev pub first_known : Known
first_known = record { state = first_state; assumptions = [] }

abbrev pub assumptions_of : Command → List Asked
assumptions_of (CheckSatAssuming asked) = asked
assumptions_of _ = []

-- after a command
abbrev pub known_by : Known → Tree → Command → Known
known_by k t c = record { state = after k.state t c; assumptions = assumptions_of c }

-- what a tree that is at fault leaves is what there was
abbrev pub known_as : Known → Tree → Read Command → Known
known_as k t (Sound c) = known_by k t c
known_as k t (Faulty f fs) = k

abbrev pub known_with : Known → Option Tree → Known
known_with k None = k
known_with k (Some t) = known_as k t (command_read limits k.state t)

-- after one more form
unfoldable pub known_after : Known → List Word → Known
known_after k form = known_with k (tree_of form)

-- after these forms, the oldest first
unfoldable pub known_of : List (List Word) → Known
known_of forms = fold known_after first_known forms

abbrev pub state_of : List (List Word) → State
state_of forms = (known_of forms).state

-- what a check looks at now: after a `check-sat-assuming` its assumptions too
abbrev pub check_now : Known → TableCheck
check_now k = record { check = check_at k.state k.assumptions; nodes = k.state.nodes; declared = declared_of k.state }
