-- The schemes of `and` and `or`, which have lists of children, in one form; and a clause that may be there, as a list.
use Rattle.std.specs.Prelude.{ℕ, Bool, not, List, [], ◌∷◌, map, Option}
use Rattle.std.specs.Option.{option_map}
use Rattle.std.specs.Global.{Vec}
use Rattle.ffc_term.specs.declared.node.Node.{Node}
use Rattle.ffc_term.specs.declared.node.Node.TheVariants.{And, Or}
use Rattle.ffc_clause.specs.Clauses.{Literal, Clause}
use Rattle.ffc_rules.specs.Schemes.{one}

-- of an `and`, where `all` is true, and of an `or`
abbrev pub gate_schemes : ℕ → Bool → List ℕ → List (List Clause)
gate_schemes v all ids = map (λ a. (not all, v) ∷ (all, a) ∷ []) ids ∷ one ((all, v) ∷ map (λ a. (not all, a)) ids) ∷ []

-- a node without a list of children that are Boolean
abbrev pub IsShort : Node → Type 0
IsShort (And ids) = ⊥
IsShort (Or ids) = ⊥
IsShort _ = Unit {0}

-- the literals of a clause, if there is one
abbrev pub literals_of : Option (Vec Literal) → Option Clause
literals_of found = option_map (λ clause. clause.items) found
