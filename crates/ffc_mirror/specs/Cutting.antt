-- Where a table may be cut: the equalities that come with an `ite` of field sort have to stay with it.
use Rattle.std.specs.Prelude.{ℕ, ◌<◌, List}
use Rattle.ffc_term.specs.Nodes.{IsNodeAt}
use Rattle.ffc_term.specs.Tables.{second_equality}
use Rattle.ffc_term.specs.declared.node.Node.{Node}
use Rattle.ffc_term.specs.declared.node.Node.TheVariants.{IteField}

-- the equalities of the node of a number, if it is an `ite` of field sort, come before another number
abbrev pub EndsBefore : List Node → ℕ → ℕ → Type 0
EndsBefore nodes len id = (c a b : ℕ) → IsNodeAt nodes id (IteField c a b) → second_equality id a b < len
