-- What a call that puts nodes into a table leaves, where a definition says what is to be made.
use Rattle.std.specs.Prelude.{◌≡◌, ℕ, ◌<◌, List, [], ◌∷◌, ◌++◌, length, All, Result, Ok, Err}
use Rattle.ffc_term.specs.declared.node.Node.{Node}
use Rattle.ffc_term.specs.declared.node.Sort.{Sort}
use Rattle.ffc_term.specs.declared.table.TermStop.{TermStop}
use Rattle.ffc_term.specs.declared.table.TermStop.TheVariants as stop
use Rattle.ffc_term.specs.Tables.{IsTable, most_nodes}
use Rattle.ffc_smt.specs.Asking.{IsSortAt, AreSortsAt}
use Rattle.ffc_smt.specs.Making.{Made, AllMade, implications}
use Rattle.ffc_smt.specs.Terms.{Operator}
use Rattle.ffc_smt.specs.WellSorted.{Takes}

-- a table that begins with another one
pub record Grows (old new : List Node) : Type 0 where
  pub more : List Node
  pub put : new ≡ old ++ more
  pub table : IsTable new

-- the node is there, and nothing else was put
pub record IsDone (old new : List Node) (wanted : Made) (id : ℕ) : Type 0 where
  pub made : wanted ≡ record { nodes = new; id = id }
  pub grows : Grows old new

-- Where the table is full, what is to be made does not fit. A part of it may be there.
pub record IsLeft (old new : List Node) (wanted : Made) (cause : TermStop) : Type 0 where
  pub full : cause ≡ stop.Nodes → most_nodes < length wanted.nodes
  pub grows : Grows old new

abbrev pub Makes : List Node → List Node → Made → Result ℕ TermStop → Type 0
Makes old new wanted (Ok id) = IsDone old new wanted id
Makes old new wanted (Err cause) = IsLeft old new wanted cause

-- both nodes are of one sort
pub record AreAlike (nodes : List Node) (a b : ℕ) : Type 0 where
  pub sort : Sort
  pub first : IsSortAt nodes sort a
  pub second : IsSortAt nodes sort b

-- the listed nodes are of this sort
abbrev pub AreAllAt : List Node → Sort → List ℕ → Type 0
AreAllAt nodes sort ids = All (IsSortAt nodes sort) ids

-- a node and others, all of one sort
pub record AreOfOneSort (nodes : List Node) (a : ℕ) (rest : List ℕ) : Type 0 where
  pub sort : Sort
  pub first : IsSortAt nodes sort a
  pub others : AreAllAt nodes sort rest

pub record AllOfOneSort (nodes : List Node) (ids : List ℕ) : Type 0 where
  pub sort : Sort
  pub each : AreAllAt nodes sort ids

-- so many arguments of such sorts as the function takes
pub record AreTaken (op : Operator) (nodes : List Node) (ids : List ℕ) : Type 0 where
  pub sorts : List Sort
  pub sort : Sort
  pub takes : Takes op sorts sort
  pub each : AreSortsAt nodes sorts ids

-- the same as `IsDone` and `IsLeft` where several nodes are made, which a list is extended by
pub record AreDone (old new : List Node) (wanted : AllMade) (before after : List ℕ) : Type 0 where
  pub ids : List ℕ
  pub made : wanted ≡ record { nodes = new; ids = ids }
  pub listed : after ≡ before ++ ids
  pub grows : Grows old new

pub record AreLeft (old new : List Node) (wanted : AllMade) (cause : TermStop) : Type 0 where
  pub full : cause ≡ stop.Nodes → most_nodes < length wanted.nodes
  pub grows : Grows old new

abbrev pub MakesAll : List Node → List Node → AllMade → List ℕ → List ℕ → Result (Unit {0}) TermStop → Type 0
MakesAll old new wanted before after (Ok u) = AreDone old new wanted before after
MakesAll old new wanted before after (Err cause) = AreLeft old new wanted cause

-- the implications of the first of these nodes, where there is one
abbrev pub implied : List Node → List ℕ → Made
implied nodes [] = record { nodes = nodes; id = 0 }
implied nodes (a ∷ rest) = implications nodes a rest

-- Some of several nodes are made: what is to be made is these, and then the others from the present table on.
pub record IsGoing (old now : List Node) (wanted others : AllMade) (before so_far : List ℕ) : Type 0 where
  pub ids : List ℕ
  pub whole : wanted ≡ record { nodes = others.nodes; ids = ids ++ others.ids }
  pub listed : so_far ≡ before ++ ids
  pub grows : Grows old now
