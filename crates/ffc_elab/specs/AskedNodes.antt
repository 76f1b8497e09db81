-- What is left after the nodes of terms that are asked for are interned, one after another.
use Rattle.std.specs.Prelude.{◌≡◌, ℕ, ◌<◌, ◌≤◌, List, [], ◌∷◌, ◌++◌, length, map, All, Result, Ok, Err, Vec}
use Rattle.std.specs.declared.alloc.Global.{Global}
use Rattle.ffc_term.specs.declared.node.Node.{Node}
use Rattle.ffc_term.specs.declared.node.Sort.{Sort}
use Rattle.ffc_term.specs.declared.table.TermStop.{TermStop}
use Rattle.ffc_term.specs.declared.table.TermStop.TheVariants as stop
use Rattle.ffc_term.specs.Tables.{most_nodes}
use Rattle.ffc_smt.specs.Trees.{Word}
use Rattle.ffc_smt.specs.Terms as smt
use Rattle.ffc_smt.specs.Making.{made}
use Rattle.ffc_smt.specs.CommandReading.{limits, asked_made}
use Rattle.ffc_smt.specs.Scopes.{State}
use Rattle.ffc_smt.specs.States.{IsTableWith, IsSoundState}
use Rattle.ffc_smt.specs.WellSorted.{IsSoundTerm}
use Rattle.ffc_parts.specs.Growing.{Grows, IsLeft}
use Rattle.ffc_terms.specs.declared.scope.Symbols.{Symbols}
use Rattle.ffc_elab.specs.declared.answers.Asked.{Asked}
use Rattle.ffc_elab.specs.declared.asked_terms.AskedTerm.{AskedTerm}
use Rattle.ffc_elab.specs.Answers.{asked_as}
use Rattle.ffc_elab.specs.Asked.{IsReadAs}
use Rattle.ffc_elab.specs.AskedLists.{AreReadAs}

-- a sound term that is not too heavy, with what was read of it over this table
pub record IsNextMade (words : List Word) (table : List Node) (symbols : Symbols) (a : smt.Asked) (t : AskedTerm) : Type 0 where
  pub constants : List Sort
  pub count : ℕ
  pub sort : Sort
  pub nodes : IsTableWith constants count table
  pub sound : IsSoundTerm constants table [] a.term sort
  pub light : smt.weight a.term ≤ limits.weight
  pub read : IsReadAs table symbols words a t

-- its node was made, and is put after those of other terms
pub record IsMadeAfter (old new : List Node) (before after : List Asked) (a : smt.Asked) : Type 0 where
  pub nodes : (made [] old a.term).nodes ≡ new
  pub put : after ≡ before ++ asked_as new a ∷ []
  pub grows : Grows old new

abbrev pub MakesOne : List Node → List Node → List Asked → List Asked → smt.Asked → Result (Unit {0}) TermStop → Type 0
MakesOne old new before after a (Ok u) = IsMadeAfter old new before after a
MakesOne old new before after a (Err cause) = IsLeft old new (made [] old a.term) cause

-- sound terms that are not too heavy, with what was read of them over this table
pub record AreToMake (words : List Word) (table : List Node) (symbols : Symbols) (asked : List smt.Asked) (terms : List AskedTerm) : Type 0 where
  pub state : State
  pub good : IsSoundState state
  pub nodes : table ≡ state.nodes
  pub sound : All (λ a. (u : Sort) × IsSoundTerm state.constants state.nodes [] a.term u) asked
  pub light : All (λ a. smt.weight a.term ≤ limits.weight) asked
  pub read : AreReadAs table symbols words asked terms

-- their nodes were made in order
pub record AreMade (old new : List Node) (asked : List smt.Asked) (r : List Asked) : Type 0 where
  pub nodes : new ≡ asked_made old asked
  pub listed : r ≡ map (asked_as new) asked
  pub grows : Grows old new

-- some were made, since they do not all fit, or memory is out
pub record AreNotMade (old new : List Node) (asked : List smt.Asked) (cause : TermStop) : Type 0 where
  pub full : cause ≡ stop.Nodes → most_nodes < length (asked_made old asked)
  pub grows : Grows old new

abbrev pub MakesEach : List Node → List Node → List smt.Asked → Result (Vec Asked Global) TermStop → Type 0
MakesEach old new asked (Ok r) = AreMade old new asked r.items
MakesEach old new asked (Err cause) = AreNotMade old new asked cause

-- they do not all fit, or memory is out, and none was made
pub record NoneIsMade (old new : List Node) (asked : List smt.Asked) (cause : TermStop) : Type 0 where
  pub full : cause ≡ stop.Nodes → most_nodes < length (asked_made old asked)
  pub same : new ≡ old

abbrev pub MakesAllOrNone : List Node → List Node → List smt.Asked → Result (Vec Asked Global) TermStop → Type 0
MakesAllOrNone old new asked (Ok r) = AreMade old new asked r.items
MakesAllOrNone old new asked (Err cause) = NoneIsMade old new asked cause
