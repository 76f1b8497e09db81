-- Nodes whose polynomials are made, and the polynomials that are kept.
use Rattle.std.specs.Prelude.{ℕ, ◌≤◌, List, All, IfSome, IsSome, sum_by}
use Rattle.std.specs.Ordering.{nat_cmp}
use Rattle.std.specs.BTreeMap.{BTreeMap, get}
use Rattle.ffc_ring.specs.Polynomial.{Terms, SamePolynomial}
use Rattle.ffc_term.specs.declared.node.Node.{Node}
use Rattle.ffc_term.specs.Values.{product_by}
use Rattle.ffc_term.specs.Tables.{IsFieldAt}
use Rattle.ffc_term.specs.Measuring.{degree_at, length_at}
use Rattle.ffc_trees.specs.NodePolynomials.{poly_at}

-- a field node within the limits on degree and length
pub record IsWithin (nodes : List Node) (p id : ℕ) : Type 0 where
  pub field : IsFieldAt nodes p id
  pub low : degree_at nodes id ≤ 255
  pub short : length_at nodes id ≤ 65536

-- field nodes whose product is within the limits
pub record AreFactors (nodes : List Node) (p : ℕ) (ids : List ℕ) : Type 0 where
  pub fields : All (IsFieldAt nodes p) ids
  pub low : sum_by (degree_at nodes) ids ≤ 255
  pub short : product_by (length_at nodes) ids ≤ 65536

-- each polynomial that is kept is that of its node
abbrev pub AreKnown : ℕ → List Node → BTreeMap ℕ Terms → Type 0
AreKnown p nodes known = (id : ℕ) → IfSome (get nat_cmp known id) (λ f. SamePolynomial p f (poly_at nodes id))

-- the polynomial of a node is kept now, and those that were are
pub record IsKept (old new : BTreeMap ℕ Terms) (id : ℕ) : Type 0 where
  pub it : IsSome (get nat_cmp new id)
  pub others : (q : ℕ) → IsSome (get nat_cmp old q) → IsSome (get nat_cmp new q)
