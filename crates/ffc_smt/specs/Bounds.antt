-- How many nodes a term makes.
use Rattle.std.specs.Prelude.{◌≡◌, ℕ, ◌+◌, ◌*◌, ◌≤◌, List, [], ◌++◌, length}
use Rattle.ffc_term.specs.declared.node.Node.{Node}
use Rattle.ffc_smt.specs.Terms.{Term, Truth, Number, Constant, Variable, Defined, Applied, Let, Called, Terms, NoTerm, AndTerm, weight}
use Rattle.ffc_smt.specs.Meaning.{Env}
use Rattle.ffc_smt.specs.Making.{made}

-- these nodes begin with those that were there when the term was made
pub record IsMade (nodes : List Node) (t : Term) : Type 0 where
  pub before : List Node
  pub more : List Node
  pub made_then : nodes ≡ (made [] before t).nodes ++ more

abbrev mutual
  -- what the term's defined names mean was interned
  pub AreDefined : List Node → Term → Type 0
  AreDefined nodes (Truth b) = Unit {0}
  AreDefined nodes (Number negative size p) = Unit {0}
  AreDefined nodes (Constant k s) = Unit {0}
  AreDefined nodes (Variable name) = Unit {0}
  AreDefined nodes (Defined t) = IsMade nodes t
  AreDefined nodes (Applied op ts) = AllDefined nodes ts
  AreDefined nodes (Let names ts t) = AllDefined nodes ts × AreDefined nodes t
  AreDefined nodes (Called names t ts) = AllDefined nodes ts × AreDefined nodes t

  pub AllDefined : List Node → Terms → Type 0
  AllDefined nodes NoTerm = Unit {0}
  AllDefined nodes (AndTerm t ts) = AreDefined nodes t × AllDefined nodes ts

-- A term makes at most as many nodes as its weight times its weight, however many there are already. (The pairs of a
-- `distinct` are as many.)
abbrev pub WeightBoundsNodes : Type 0
WeightBoundsNodes = (t : Term) (ids : Env ℕ) (nodes : List Node) → AreDefined nodes t → length (made ids nodes t).nodes ≤ length nodes + weight t * weight t
