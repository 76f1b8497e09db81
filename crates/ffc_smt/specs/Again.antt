-- A term that is made again makes nothing.
use Rattle.std.specs.Prelude.{◌≡◌, ℕ, ◌<◌, List, [], ◌∷◌, ◌++◌, length}
use Rattle.ffc_term.specs.declared.node.Node.{Node}
use Rattle.ffc_smt.specs.Terms.{Term}
use Rattle.ffc_smt.specs.Meaning.{Env}
use Rattle.ffc_smt.specs.Making.{made}

-- the variables' nodes are among these
abbrev pub AreWithin : List Node → Env ℕ → Type 0
AreWithin nodes [] = Unit {0}
AreWithin nodes (x ∷ xs) = (x.1 < length nodes) × AreWithin nodes xs

-- Where the nodes begin with those that a term left it makes no more, and has the node that it had. So a name that was
-- defined without parameters means one node.
abbrev pub MadeOnce : Type 0
MadeOnce = (t : Term) (ids : Env ℕ) (nodes more : List Node) → AreWithin nodes ids
    → made ids ((made ids nodes t).nodes ++ more) t ≡ record { nodes = (made ids nodes t).nodes ++ more; id = (made ids nodes t).id }
