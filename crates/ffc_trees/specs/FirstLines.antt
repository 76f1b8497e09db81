-- The first lines of a lemma's tree: what would be 0 if all literals of the lemma were false. Each literal is on an equality
-- of one order. Where it is `-`, the equality would hold: the difference of its sides is 0. Where it is `+`, the sides would
-- differ: their difference times its inverse is 1 (Rabinowitsch, "Zum Hilbertschen Nullstellensatz", 1930).
use Rattle.std.specs.Prelude.{ℕ, suc, Bool, if◌then◌else◌, List, [], ◌∷◌, length}
use Rattle.std.specs.List.{list_any}
use Rattle.ffc_ring.specs.Polynomial.{Terms, product, difference}
use Rattle.ffc_term.specs.declared.node.Node.{Node}
use Rattle.ffc_term.specs.declared.node.Node.TheVariants.{Eq}
use Rattle.ffc_term.specs.declared.value.Value.{Value}
use Rattle.ffc_term.specs.Nodes.{node_at}
use Rattle.ffc_term.specs.Values.{truth, value_at, is_same_truth}
use Rattle.ffc_trees.specs.Normal.{normal}
use Rattle.ffc_trees.specs.NodePolynomials.{variable, constant, poly_at}

-- a node, with true, or its negation
abbrev pub Literal : Type 0
Literal = Bool × ℕ

-- the truth of a literal under an assignment, and of a clause, which is true where a literal is
abbrev pub literal_truth : List Node → List Value → Literal → Bool
literal_truth nodes assignment lit = is_same_truth lit.0 (truth (value_at nodes assignment lit.1))

abbrev pub clause_truth : List Node → List Value → List Literal → Bool
clause_truth nodes assignment lits = list_any (literal_truth nodes assignment) lits

-- the difference of the sides of an equality
abbrev pub difference_of : ℕ → List Node → Node → Terms
difference_of p nodes (Eq s t) = difference p (poly_at nodes s) (poly_at nodes t)
difference_of p nodes _ = []

-- the line of a literal, where w numbers the variable for the inverse
unfoldable pub first_line : ℕ → List Node → ℕ → Literal → Terms
first_line p nodes w lit =
    if lit.0
    then normal p (difference p (product (difference_of p nodes (node_at nodes lit.1)) (variable w)) (constant 1))
    else normal p (difference_of p nodes (node_at nodes lit.1))

abbrev pub first_lines_from : ℕ → List Node → ℕ → List Literal → List Terms
first_lines_from p nodes w [] = []
first_lines_from p nodes w (lit ∷ lits) = first_line p nodes w lit ∷ first_lines_from p nodes (suc w) lits

-- the variables for inverses are numbered from the number of nodes on, one for each literal
abbrev pub first_lines : List Node → ℕ → List Literal → List Terms
first_lines nodes p lits = first_lines_from p nodes (length nodes) lits
