-- A polynomial has a node's value under every assignment (Ozdemir, Kremer, Tinelli and Barrett, "Satisfiability Modulo Finite
-- Fields", CAV 2023, section 4).
use Rattle.std.specs.Prelude.{◌≡◌, ℕ, List}
use Rattle.ffc_ring.specs.Polynomial.{Terms, poly_value}
use Rattle.ffc_term.specs.declared.node.Node.{Node}
use Rattle.ffc_term.specs.declared.value.Value.{Value}
use Rattle.ffc_term.specs.Values.{value_at, residue}
use Rattle.ffc_trees.specs.Laws.{IsPointOf}

-- at each point that gives every node of the field of order p its residue under an assignment, it is the residue of the node
abbrev pub HasValues : ℕ → List Node → ℕ → Terms → Type 0
HasValues p nodes id f = (assignment : List Value) (point : ℕ → ℕ) → IsPointOf nodes assignment p point → poly_value p point f ≡ residue (value_at nodes assignment id)
