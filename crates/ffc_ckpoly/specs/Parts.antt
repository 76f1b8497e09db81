-- Polynomials of nodes from those of their parts: the nodes whose polynomials are added or multiplied.
use Rattle.std.specs.Prelude.{ℕ, ◌*◌, ◌≤◌, List, [], ◌∷◌, ◌++◌, IfSome}
use Rattle.std.specs.Ordering.{nat_cmp}
use Rattle.std.specs.BTreeMap.{BTreeMap, get}
use Rattle.ffc_ring.specs.Polynomial.{Terms, scaled}
use Rattle.ffc_term.specs.declared.node.Node.{Node}
use Rattle.ffc_term.specs.Tables.{IsFieldAt}
use Rattle.ffc_term.specs.Measuring.{degree_at}
use Rattle.ffc_trees.specs.NodePolynomials.{poly_in, poly_at}
use Rattle.ffc_trees.specs.Same.{IsSameLine}

-- w times the first, w*r times the second, w*r*r times the third, and so on
abbrev pub weighted : ℕ → ℕ → List Terms → List ℕ → Terms
weighted w r polys [] = []
weighted w r polys (id ∷ ids) = scaled w (poly_in polys id) ++ weighted (w * r) r polys ids

-- the sum of the nodes' polynomials, each times its weight
abbrev pub owed : {F : Type 0} → (F → ℕ) → List Terms → List (F × ℕ) → Terms
owed value polys [] = []
owed value polys (x ∷ xs) = scaled (value x.0) (poly_in polys x.1) ++ owed value polys xs

-- a field node whose polynomial is within the limit on degrees
pub record IsWithin (nodes : List Node) (p id : ℕ) : Type 0 where
  pub field : IsFieldAt nodes p id
  pub low : degree_at nodes id ≤ 255

-- each polynomial that is kept is that of its node
abbrev pub AreKnown : ℕ → List Node → BTreeMap ℕ Terms → Type 0
AreKnown p nodes known = (id : ℕ) → IfSome (get nat_cmp known id) (λ f. IsSameLine p f (poly_at nodes id))
