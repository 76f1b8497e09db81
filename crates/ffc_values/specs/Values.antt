-- Refutations by the values of variables: sums of multiples of a lemma's first lines are the variables less their values
-- (Macaulay 1902; Lazard 1983), and at these values a literal of the lemma is true.
use Rattle.std.specs.Prelude.{◌≡◌, ◌≢◌, ℕ, ◌<◌, ◌≤◌, true, false, List, [], ◌∷◌, length, take, slice_get, Some, All, Contains}
use Rattle.std.specs.List.Sorted.{IsStrictlyIncreasing}
use Rattle.ffc_ring.specs.Monomial.{Monomial, degree}
use Rattle.ffc_ring.specs.Polynomial.{Terms, SamePolynomial, poly_value}
use Rattle.ffc_clause.specs.Clauses.{Literal}
use Rattle.ffc_term.specs.Nodes.{node_at}
use Rattle.ffc_trees.specs.Normal.{IsNormal}
use Rattle.ffc_trees.specs.NodePolynomials.{EachMonomial}
use Rattle.ffc_trees.specs.FirstLines.{difference_of, first_lines}
use Rattle.ffc_rules.specs.Entries.{NodeCheck}
use Rattle.ffc_refutation.specs.declared.reason.Reason.{Reason}
use Rattle.ffc_refutation.specs.declared.combination.Determined.{Determined}
use Rattle.ffc_refutation.specs.Forcing.{Forces}
use Rattle.ffc_refutation.specs.Combinations.{IsDetermined, IsFalseLemma}
use Rattle.ffc_bounds.specs.Monomials.{monomials, columns}

-- of at most this degree
abbrev pub IsLow : ℕ → Monomial → Type 0
IsLow d m = degree m ≤ d

-- A sum of multiples of the lines is the variable less its value at the point. The multiples are by monomials of at most the degree
-- d, and the variable is numbered below the inverses, which come after so many nodes.
pub record IsKnown (p : ℕ) (lines : List Terms) (nodes d : ℕ) (point : ℕ → ℕ) (x : ℕ) (known : Determined) : Type 0 where
  pub below : x < nodes
  pub value : point x ≡ known.value
  pub determined : IsDetermined p lines x known.value known.summands.items
  pub low : All (λ s. IsLow d s.1.1) known.summands.items

-- the same of the first of some variables, one after another
abbrev pub AreKnown : ℕ → List Terms → ℕ → ℕ → (ℕ → ℕ) → List ℕ → List Determined → Type 0
AreKnown p lines nodes d point xs [] = Unit {0}
AreKnown p lines nodes d point [] (k ∷ ks) = ⊥
AreKnown p lines nodes d point (x ∷ xs) (k ∷ ks) = IsKnown p lines nodes d point x k × AreKnown p lines nodes d point xs ks

-- Reasons force literals under which a lemma is false, in a table of so many nodes. Sums of multiples of its first lines determine the
-- first of some variables, within a degree in which there are few monomials in all of the variables. At the point with these values
-- the literal of the lemma numbered `line` is true: the difference of the sides of its equality, which has no other variables than
-- those that are determined, is 0 there exactly where the literal says so.
pub record IsRefutedByValues (c : NodeCheck) (reasons : List Reason) (p : ℕ) (lits : List Literal) (nodes : ℕ) (variables : List ℕ) (determined : List Determined) (line : ℕ) (sides : Terms) : Type 0 where
  pub size : nodes ≡ length c.nodes
  pub forced : List Literal
  pub forces : Forces c [] reasons forced
  pub lemma : IsFalseLemma c p forced lits
  pub bound : ℕ
  pub least : 2 ≤ bound
  pub most : bound ≤ 1024
  pub increase : IsStrictlyIncreasing variables
  pub few : columns bound variables ≤ 4096
  pub point : ℕ → ℕ
  pub known : AreKnown p (first_lines c.nodes p lits) nodes bound point variables determined
  pub literal : Literal
  pub at : slice_get lits line ≡ Some literal
  pub same : SamePolynomial p sides (difference_of p c.nodes (node_at c.nodes literal.1))
  pub normal : IsNormal p sides
  pub low : EachMonomial (IsLow 255) sides
  pub among : EachMonomial (Contains (monomials bound (take (length determined) variables))) sides
  pub unequal : literal.0 ≡ false → poly_value p point sides ≢ 0
  pub equal : literal.0 ≡ true → poly_value p point sides ≡ 0
