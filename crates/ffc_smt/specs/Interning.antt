-- What a table does when it is asked for a node is what the definitions say.
use Rattle.std.specs.Prelude.{◌≡◌, ℕ, List}
use Rattle.ffc_term.specs.declared.node.Node.{Node}
use Rattle.ffc_term.specs.declared.node.Sort.TheVariants as sort
use Rattle.ffc_term.specs.Tables.{IsWellFormed, IsTable, IsInterned, IsIteInterned}
use Rattle.ffc_smt.specs.Making.{interned, choice}

-- a node
abbrev pub InterningIsOne : Type 0
InterningIsOne = (old new : List Node) (n : Node) (id : ℕ) → IsWellFormed new → IsInterned old new n id → interned old n ≡ record { nodes = new; id = id }

-- an `ite` of field sort with its equalities
abbrev pub ChoosingIsOne : Type 0
ChoosingIsOne = (old new : List Node) (p c a b id : ℕ) → IsTable new → IsIteInterned old new c a b id → choice (sort.Field p) old c a b ≡ record { nodes = new; id = id }
