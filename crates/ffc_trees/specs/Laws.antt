-- The laws of polynomials of nodes and of case trees.
use Rattle.std.specs.Prelude.{◌≡◌, ℕ, ◌<◌, ◌≤◌, true, false, List, [], ◌∷◌, ◌++◌, length, All, Ok}
use Rattle.std.specs.Int.{IsGcd}
use Rattle.ffc_field.specs.Orders.{IsOrder}
use Rattle.ffc_ring.specs.Monomial.{IsMonomial}
use Rattle.ffc_ring.specs.Polynomial.{Terms, SamePolynomial, poly_value}
use Rattle.ffc_cert.specs.declared.entries.CertLine.{CertLine}
use Rattle.ffc_cert.specs.Spelling.{is_clause}
use Rattle.ffc_term.specs.declared.node.Node.{Node}
use Rattle.ffc_term.specs.declared.node.Node.TheVariants.{Eq}
use Rattle.ffc_term.specs.declared.value.Value.{Value}
use Rattle.ffc_term.specs.Nodes.{IsNodeAt}
use Rattle.ffc_term.specs.Values.{value_at, residue}
use Rattle.ffc_term.specs.Tables.{IsTable, IsFieldAt}
use Rattle.ffc_term.specs.Checks.{IsNodeOf}
use Rattle.ffc_term.specs.Measuring.{degree_at, length_at}
use Rattle.ffc_trees.specs.Normal.{normal, degree_of, IsNormal}
use Rattle.ffc_trees.specs.NodePolynomials.{poly_at, EachMonomial, HasVariables, IsVariableAt}
use Rattle.ffc_trees.specs.TreeLines.{Limits}
use Rattle.ffc_trees.specs.BitLines.{common_divisor, bits_line}
use Rattle.ffc_trees.specs.Trees.{tree_read}
use Rattle.ffc_trees.specs.Closing.{Closes}
use Rattle.ffc_trees.specs.FirstLines.{Literal, clause_truth, first_lines}

-- the normal list is the same polynomial, and it is one
abbrev pub NormalIsSame : Type 0
NormalIsSame = (p : ℕ) (ts : Terms) → SamePolynomial p (normal p ts) ts

abbrev pub NormalIsNormal : Type 0
NormalIsNormal = (p : ℕ) (ts : Terms) → 0 < p → IsNormal p (normal p ts)

-- a point gives each node of the field of order p its residue under the assignment
abbrev pub IsPointOf : List Node → List Value → ℕ → (ℕ → ℕ) → Type 0
IsPointOf nodes assignment p point = (id : ℕ) → IsFieldAt nodes p id → point id ≡ residue (value_at nodes assignment id)

-- the polynomial of a node has there the node's residue
abbrev pub PolynomialsKeepValues : Type 0
PolynomialsKeepValues = (nodes : List Node) (assignment : List Value) (p : ℕ) (point : ℕ → ℕ) (id : ℕ)
    → IsTable nodes → IsPointOf nodes assignment p point → IsFieldAt nodes p id
    → poly_value p point (poly_at nodes id) ≡ residue (value_at nodes assignment id)

-- further nodes change no polynomial
abbrev pub PolynomialsStay : Type 0
PolynomialsStay = (nodes more : List Node) (id : ℕ) → id < length nodes → poly_at (nodes ++ more) id ≡ poly_at nodes id

-- its monomials have increasing variables, and each variable is a constant or an `ite` of its order, below it
abbrev pub PolynomialsHaveVariables : Type 0
PolynomialsHaveVariables = (nodes : List Node) (p : ℕ) (id : ℕ) → IsTable nodes → IsFieldAt nodes p id
    → EachMonomial (λ m. IsMonomial m × HasVariables (λ x. IsVariableAt nodes p x × IsNodeOf nodes (id ∷ []) x) m) (poly_at nodes id)

-- its degree and its number of terms are at most the node's measures
abbrev pub MeasuresBound : Type 0
MeasuresBound = (nodes : List Node) (p : ℕ) (id : ℕ) → IsTable nodes → IsFieldAt nodes p id
    → (degree_of (poly_at nodes id) ≤ degree_at nodes id) × (length (poly_at nodes id) ≤ length_at nodes id)

-- all lines are 0 at a point
abbrev pub AreZeroAt : ℕ → (ℕ → ℕ) → List Terms → Type 0
AreZeroAt p point lines = All (λ f. poly_value p point f ≡ 0) lines

-- a point of residues
abbrev pub IsPoint : ℕ → (ℕ → ℕ) → Type 0
IsPoint p point = (x : ℕ) → point x < p

-- the polynomial of a line of bits is 0 at each point where the lines are
abbrev pub BitLinesVanish : Type 0
BitLinesVanish = (l : Limits) (p : ℕ) (lines : List Terms) (sum : ℕ) (chosen : List ℕ) (written : Terms) (numbers : List ℕ) (line : Terms) (point : ℕ → ℕ)
    → IsOrder p → bits_line l p lines sum chosen written numbers ≡ Ok line → IsPoint p point → AreZeroAt p point lines → poly_value p point line ≡ 0

-- Euclid's algorithm gives the greatest common divisor
abbrev pub DivisorsAreGreatest : Type 0
DivisorsAreGreatest = (a b : ℕ) → IsGcd a b (common_divisor a b)

-- a tree that closes refutes that all its first lines are 0 at a point
abbrev pub TreesRefute : Type 0
TreesRefute = (l : Limits) (p : ℕ) (lines : List Terms) (tree rest : List CertLine) (point : ℕ → ℕ)
    → IsOrder p → Closes l p lines tree rest → IsPoint p point → AreZeroAt p point lines → ⊥

-- a tree is read to its end exactly where it closes
abbrev pub ReadTreesClose : Type 0
ReadTreesClose = (l : Limits) (p : ℕ) (lines : List Terms) (tree rest : List CertLine) → tree_read l p lines tree ≡ Ok rest → Closes l p lines tree rest

abbrev pub ClosedTreesAreRead : Type 0
ClosedTreesAreRead = (l : Limits) (p : ℕ) (lines : List Terms) (tree rest : List CertLine) → Closes l p lines tree rest → tree_read l p lines tree ≡ Ok rest

-- a literal on an equality of order p
abbrev pub IsOnEquality : List Node → ℕ → Literal → Type 0
IsOnEquality nodes p lit = (s : ℕ) × (t : ℕ) × IsNodeAt nodes lit.1 (Eq s t) × IsFieldAt nodes p s

-- where no literal is true, all first lines are 0 at some point of residues, which gives each node its residue
pub record Vanishes (nodes : List Node) (assignment : List Value) (p : ℕ) (lits : List Literal) : Type 0 where
  pub point : ℕ → ℕ
  pub below : IsPoint p point
  pub nodes_at : IsPointOf nodes assignment p point
  pub zero : AreZeroAt p point (first_lines nodes p lits)

abbrev pub FirstLinesVanish : Type 0
FirstLinesVanish = (nodes : List Node) (assignment : List Value) (p : ℕ) (lits : List Literal)
    → IsTable nodes → IsOrder p → All (IsOnEquality nodes p) lits → clause_truth nodes assignment lits ≡ false
    → Vanishes nodes assignment p lits

-- a lemma whose tree is read to its end is true under every assignment
abbrev pub LemmasAreSound : Type 0
LemmasAreSound = (l : Limits) (nodes : List Node) (assignment : List Value) (p : ℕ) (lits : List Literal) (tree rest : List CertLine)
    → IsTable nodes → IsOrder p → All (IsOnEquality nodes p) lits → tree_read l p (first_lines nodes p lits) tree ≡ Ok rest
    → clause_truth nodes assignment lits ≡ true

-- the lines of a tree: there is one at least, and none is a clause
pub record IsTakenOff (tree rest : List CertLine) : Type 0 where
  pub front : List CertLine
  pub parts : tree ≡ front ++ rest
  pub some : 0 < length front
  pub in_tree : All (λ line. is_clause line ≡ false) front

abbrev pub TreesAreTakenOff : Type 0
TreesAreTakenOff = (l : Limits) (p : ℕ) (lines : List Terms) (tree rest : List CertLine) → tree_read l p lines tree ≡ Ok rest → IsTakenOff tree rest
