-- Generators: the lines of a lemma's literals as polynomials.
use Rattle.std.specs.Prelude.{◌≡◌, ℕ, ◌⊎◌, List, []}
use Rattle.std.specs.List.{AllZip}
use Rattle.ffc_ring.specs.Polynomial.{Terms, SamePolynomial}
use Rattle.ffc_trees.specs.Normal.{IsNormal}

-- the polynomial of a line, as different monomials with coefficients from 1 to p - 1
pub record IsGenerator (p : ℕ) (line generator : Terms) : Type 0 where
  pub same : SamePolynomial p generator line
  pub normal : IsNormal p generator

abbrev pub AreGeneratorsOf : ℕ → List Terms → List Terms → Type 0
AreGeneratorsOf p lines generators = AllZip (IsGenerator p) lines generators

-- none is made yet, or all are
abbrev pub AreKnown : ℕ → List Terms → List Terms → Type 0
AreKnown p lines generators = (generators ≡ []) ⊎ AreGeneratorsOf p lines generators
