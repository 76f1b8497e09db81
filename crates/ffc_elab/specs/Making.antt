-- What is left after the node of a term is interned, where a table stays as it was unless all is made.
use Rattle.std.specs.Prelude.{◌≡◌, ◌⊎◌, ℕ, ◌<◌, ◌≤◌, List, [], length, Result, Ok, Err}
use Rattle.ffc_term.specs.declared.node.Node.{Node}
use Rattle.ffc_term.specs.declared.node.Sort.{Sort}
use Rattle.ffc_term.specs.declared.table.TermStop.{TermStop}
use Rattle.ffc_term.specs.declared.table.TermStop.TheVariants as stop
use Rattle.ffc_term.specs.Tables.{most_nodes}
use Rattle.ffc_smt.specs.CommandReading.{limits}
use Rattle.ffc_smt.specs.Faults.{word_fault}
use Rattle.ffc_smt.specs.Making.{Made, made}
use Rattle.ffc_smt.specs.Meaning.{Env}
use Rattle.ffc_smt.specs.States.{IsTableWith}
use Rattle.ffc_smt.specs.Terms.{Term, weight}
use Rattle.ffc_smt.specs.Trees.{Word}
use Rattle.ffc_smt.specs.WellSorted.{IsSoundTerm}
use Rattle.ffc_parts.specs.Growing.{IsDone}
use Rattle.ffc_terms.specs.declared.scope.Meaning.{Meaning}
use Rattle.ffc_terms.specs.declared.terms.TermRead.{TermRead}
use Rattle.ffc_terms.specs.Codes.{IsCode, capped_weight}
use Rattle.ffc_words.specs.declared.faults.TakeStop.{TakeStop}
use Rattle.ffc_words.specs.declared.faults.TakeStop.TheVariants as take_stop
use Rattle.ffc_words.specs.Words.{fault_of, word_at}

-- Where the table would be full, what is to be made does not fit.
pub record IsAsBefore (old new : List Node) (wanted : Made) (cause : TermStop) : Type 0 where
  pub full : cause ≡ stop.Nodes → most_nodes < length wanted.nodes
  pub same : new ≡ old

abbrev pub MakesOrKeeps : List Node → List Node → Made → Result ℕ TermStop → Type 0
MakesOrKeeps old new wanted (Ok id) = IsDone old new wanted id
MakesOrKeeps old new wanted (Err cause) = IsAsBefore old new wanted cause

-- a sound term that was read, where the table has these constants
pub record IsSoundRead (nodes : List Node) (symbols : Env Meaning) (t : Term) (read : TermRead) : Type 0 where
  pub constants : List Sort
  pub count : ℕ
  pub sort : Sort
  pub table : IsTableWith constants count nodes
  pub sound : IsSoundTerm constants nodes [] t sort
  pub code : IsCode nodes symbols [] t read.code.items
  pub weight_is : read.weight ≡ capped_weight (weight t)

-- the term is too heavy, or makes too many nodes
abbrev pub IsTooMuch : List Node → Term → Type 0
IsTooMuch nodes t = (limits.weight < weight t) ⊎ (limits.nodes < length (made [] nodes t).nodes)

-- The node is made, or the table is as it was: code 15 at the parenthesis of the form is its fault where it is too much.
abbrev pub FitsOrNot : List Word → List Node → List Node → Term → Result ℕ TakeStop → Type 0
FitsOrNot words old new t (Ok id) = (weight t ≤ limits.weight) × IsDone old new (made [] old t) id
FitsOrNot words old new t (Err (take_stop.Fault f)) = (fault_of f ≡ word_fault 15 (word_at words 0)) × IsTooMuch old t × (new ≡ old)
FitsOrNot words old new t (Err take_stop.Memory) = new ≡ old
