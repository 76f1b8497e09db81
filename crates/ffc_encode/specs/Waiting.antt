-- What waits while a sum is opened: multiples of nodes' polynomials. The order in which they lie plays no part.
use Rattle.std.specs.Prelude.{◌≡◌, ℕ, ◌*◌, ◌%◌, ◌<◌, List, [], ◌∷◌, ◌++◌, length, map, All, sum_by}
use Rattle.std.specs.List.Sorted.{IsPermutation}
use Rattle.ffc_ring.specs.Polynomial.{Terms, scaled}
use Rattle.ffc_term.specs.declared.node.Node.{Node}
use Rattle.ffc_term.specs.Nodes.{IsNodeAt}
use Rattle.ffc_trees.specs.NodePolynomials.{poly_in}
use Rattle.ffc_encode.specs.declared.sums.Owed.{Owed}
use Rattle.ffc_trees.specs.Parts.{parts_of}
use Rattle.ffc_encode.specs.Opening.{IsOpenable, size_at}

abbrev pub owed_of : ℕ → ℕ → Owed
owed_of node weight = record { node = node; weight = weight }

-- the sum of the nodes' polynomials, each times its weight
abbrev pub owed : List Terms → List Owed → Terms
owed polys [] = []
owed polys (x ∷ xs) = scaled x.weight (poly_in polys x.node) ++ owed polys xs

-- all of them are nodes of the field of order p whose polynomials need not be made by themselves
abbrev pub AreOwed : List Node → ℕ → (ℕ → Type 0) → List Owed → Type 0
AreOwed nodes p has xs = All (λ x. IsOpenable nodes p has x.node) xs

-- how many nodes are reached from those that wait
abbrev pub owed_size : List Node → List Owed → ℕ
owed_size nodes xs = sum_by (λ x. size_at nodes x.node) xs

-- the parts of a node wait besides
pub record AreOpened (nodes : List Node) (id : ℕ) (old new : List Owed) : Type 0 where
  pub added : List Owed
  pub all : IsPermutation (added ++ old) new
  pub parts : (n : Node) → IsNodeAt nodes id n → map (λ x. x.node) added ≡ parts_of n

-- the first with the weight w, and each further one with r times the weight before it, modulo p
abbrev pub geometric : ℕ → ℕ → ℕ → List ℕ → List Owed
geometric p w r [] = []
geometric p w r (id ∷ ids) = owed_of id w ∷ geometric p (w * r % p) r ids

-- x is what waited for one node: some multiples of its polynomial are taken, with the sum of their weights
pub record Takes (p : ℕ) (old : List Owed) (x : Owed) (new : List Owed) : Type 0 where
  pub taken : List Owed
  pub all : IsPermutation old (taken ++ new)
  pub some : 0 < length taken
  pub of_one : All (λ y. y.node ≡ x.node) taken
  pub weight : x.weight ≡ sum_by (λ y. y.weight) taken % p

-- the first of them is of this node
abbrev pub IsOfNode : ℕ → List Owed → Type 0
IsOfNode node [] = ⊥
IsOfNode node (x ∷ xs) = x.node ≡ node
