-- The same lines, written in other orders of their terms: what is read from them is one.
use Rattle.std.specs.Prelude.{◌≡◌, ℕ, ◌<◌, List, [], ◌∷◌, length}
use Rattle.ffc_cert.specs.declared.entries.CertLine.{CertLine}
use Rattle.ffc_ring.specs.Polynomial.{Terms, SamePolynomial}
use Rattle.ffc_trees.specs.Normal.{IsNormal, degree_of}
use Rattle.ffc_trees.specs.TreeLines.{Limits}
use Rattle.ffc_trees.specs.Trees.{Stage, Open, Within, read_from, tree_read}

-- two normal lists of one polynomial
pub record IsSameLine (p : ℕ) (f g : Terms) : Type 0 where
  pub one : IsNormal p f
  pub other : IsNormal p g
  pub same : SamePolynomial p f g

abbrev pub AreSameLines : ℕ → List Terms → List Terms → Type 0
AreSameLines p [] [] = Unit {0}
AreSameLines p [] (g ∷ others) = ⊥
AreSameLines p (f ∷ lines) [] = ⊥
AreSameLines p (f ∷ lines) (g ∷ others) = IsSameLine p f g × AreSameLines p lines others

abbrev pub AreSameCases : ℕ → List (List Terms) → List (List Terms) → Type 0
AreSameCases p [] [] = Unit {0}
AreSameCases p [] (b ∷ bs) = ⊥
AreSameCases p (a ∷ xs) [] = ⊥
AreSameCases p (a ∷ xs) (b ∷ bs) = AreSameLines p a b × AreSameCases p xs bs

-- the same branches, or the same chain in the same branch
abbrev pub IsSameStage : ℕ → Stage → Stage → Type 0
IsSameStage p (Open xs) (Open bs) = AreSameCases p xs bs
IsSameStage p (Open xs) (Within d b bs) = ⊥
IsSameStage p (Within c a xs) (Open bs) = ⊥
IsSameStage p (Within c a xs) (Within d b bs) = (c ≡ d) × AreSameLines p a b × AreSameCases p xs bs

-- the number of terms and the degree are those of the polynomial
abbrev pub SizesAreOne : Type 0
SizesAreOne = (p : ℕ) (f g : Terms) → 0 < p → IsSameLine p f g → (length f ≡ length g) × (degree_of f ≡ degree_of g)

-- what is read depends on the polynomials of the lines alone
abbrev pub StagesReadAlike : Type 0
StagesReadAlike = (l : Limits) (p : ℕ) (s t : Stage) (at : ℕ) (tree : List CertLine) → 0 < p → IsSameStage p s t → read_from l p s at tree ≡ read_from l p t at tree

abbrev pub TreesReadAlike : Type 0
TreesReadAlike = (l : Limits) (p : ℕ) (lines others : List Terms) (tree : List CertLine) → 0 < p → AreSameLines p lines others → tree_read l p lines tree ≡ tree_read l p others tree
