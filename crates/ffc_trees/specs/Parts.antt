-- The parts of a node: the nodes whose polynomials make its own.
use Rattle.std.specs.Prelude.{ℕ, List, [], ◌∷◌}
use Rattle.ffc_term.specs.declared.node.Node.{Node}
use Rattle.ffc_term.specs.declared.node.Node.TheVariants.{Add, Mul, Neg, Bitsum}

abbrev pub parts_of : Node → List ℕ
parts_of (Add ids) = ids
parts_of (Mul ids) = ids
parts_of (Neg a) = a ∷ []
parts_of (Bitsum ids) = ids
parts_of _ = []
