-- What is left after the list of a command is read and its nodes are interned, for `get-value` and `check-sat-assuming`.
use Rattle.std.specs.Prelude.{◌≡◌, ◌≤◌, List, Result, Ok, Err, Vec}
use Rattle.std.specs.declared.alloc.Global.{Global}
use Rattle.ffc_term.specs.declared.node.Node.{Node}
use Rattle.ffc_smt.specs.Trees.{Word, Tree}
use Rattle.ffc_smt.specs.Faults.{Sound}
use Rattle.ffc_smt.specs.Terms as smt
use Rattle.ffc_smt.specs.CommandReading.{limits, form_read, command_read}
use Rattle.ffc_words.specs.declared.faults.TakeStop.{TakeStop}
use Rattle.ffc_words.specs.declared.faults.TakeStop.TheVariants as stop
use Rattle.ffc_words.specs.Outcomes.{outcome}
use Rattle.ffc_words.specs.Words.{fault_of}
use Rattle.ffc_terms.specs.declared.scope.Symbols.{Symbols}
use Rattle.ffc_elab.specs.declared.answers.Asked.{Asked}
use Rattle.ffc_elab.specs.declared.asked_lists.Listed.{Listed}
use Rattle.ffc_elab.specs.declared.asked_lists.AskedList.{AskedList}
use Rattle.ffc_elab.specs.Histories.{Known}
use Rattle.ffc_elab.specs.Reading.{IsFormOf}
use Rattle.ffc_elab.specs.AskedLists.{AreReadAs, listed_command, total_weight}
use Rattle.ffc_elab.specs.AskedNodes.{AreMade}

-- the form says a command with these terms, which are not too heavy
pub record IsLightList (k : Known) (tree : Tree) (symbols : Symbols) (words : List Word) (which : Listed) (l : AskedList) : Type 0 where
  pub asked : List smt.Asked
  pub form : form_read limits k.state tree ≡ Sound (listed_command which asked)
  pub terms : AreReadAs k.state.nodes symbols words asked l.terms.items
  pub light : total_weight asked ≤ limits.weight

abbrev pub ReadsLight : Known → Tree → Symbols → List Word → Listed → Result AskedList TakeStop → Type 0
ReadsLight k tree symbols words which (Ok l) = IsLightList k tree symbols words which l
ReadsLight k tree symbols words which (Err (stop.Fault f)) = IsFormOf words tree → outcome (command_read limits k.state tree) ≡ Err (fault_of f)
ReadsLight k tree symbols words which (Err stop.Memory) = Unit {0}

-- the command was read, and the nodes of its terms were made
pub record IsListMade (k : Known) (tree : Tree) (which : Listed) (old new : List Node) (r : List Asked) : Type 0 where
  pub asked : List smt.Asked
  pub read : command_read limits k.state tree ≡ Sound (listed_command which asked)
  pub made : AreMade old new asked r

-- or the table is as before
abbrev pub MakesListed : Known → Tree → List Word → Listed → List Node → List Node → Result (Vec Asked Global) TakeStop → Type 0
MakesListed k tree words which old new (Ok r) = IsListMade k tree which old new r.items
MakesListed k tree words which old new (Err (stop.Fault f)) = (IsFormOf words tree → outcome (command_read limits k.state tree) ≡ Err (fault_of f)) × (new ≡ old)
MakesListed k tree words which old new (Err stop.Memory) = new ≡ old
