-- Equations and disequations over one constant that no value meets: a common divisor of the equations' polynomials, by Euclid's
-- algorithm, is a constant, or some disequation is false at each of its roots (Cox, Little and O'Shea, "Ideals, Varieties, and
-- Algorithms", chapter 1, section 5; the roots by Berlekamp, "Factoring polynomials over large finite fields", 1970).
use Rattle.std.specs.Prelude.{◌≡◌, ℕ, ◌-◌, ◌<◌, ◌≤◌, List, [], ◌∷◌, ◌++◌, length, map, slice_get, Some}
use Rattle.ffc_ring.specs.Polynomial.{SamePolynomial}
use Rattle.ffc_uni.specs.Univariate.{Coefficients, SameUnivariate, IsNormal, indeterminate, times, product_of_roots, terms_in}
use Rattle.ffc_uni.specs.Chains.{IsChain, AreLower, last_remainder}
use Rattle.ffc_roots.specs.declared.found.Roots.{Roots}
use Rattle.ffc_roots.specs.Roots.{IsCombination, without_x}
use Rattle.ffc_term.specs.declared.node.Node.{Node}
use Rattle.ffc_term.specs.Nodes.{node_at}
use Rattle.ffc_term.specs.Tables.{most_nodes}
use Rattle.ffc_clause.specs.Clauses.{Literal, plus, minus}
use Rattle.ffc_trees.specs.FirstLines.{difference_of}
use Rattle.ffc_rules.specs.Entries.{NodeCheck}
use Rattle.ffc_refutation.specs.declared.reason.Reason.{Reason}
use Rattle.ffc_refutation.specs.Forcing.{Forces}
use Rattle.ffc_refutation.specs.Combinations.{IsFalseLemma}
use Rattle.ffc_lemmatree.specs.declared.endings.EuclidStep.{EuclidStep}
use Rattle.ffc_lemmatree.specs.declared.endings.RootCase.{RootCase}
use Rattle.ffc_lemmatree.specs.declared.endings.Ending.{Ending}
use Rattle.ffc_lemmatree.specs.declared.endings.Ending.TheVariants as ending

-- the difference of an equality's sides is the polynomial f in the variable x alone
pub record IsPolynomialOf (nodes : List Node) (p x id : ℕ) (f : Coefficients) : Type 0 where
  pub same : SamePolynomial p (difference_of p nodes (node_at nodes id)) (terms_in x f)
  pub low : length f ≤ 256

-- the same of each equality
abbrev pub ArePolynomialsOf : List Node → ℕ → ℕ → List ℕ → List Coefficients → Type 0
ArePolynomialsOf nodes p x [] [] = Unit {0}
ArePolynomialsOf nodes p x [] (f ∷ fs) = ⊥
ArePolynomialsOf nodes p x (id ∷ ids) [] = ⊥
ArePolynomialsOf nodes p x (id ∷ ids) (f ∷ fs) = IsPolynomialOf nodes p x id f × ArePolynomialsOf nodes p x ids fs

-- g is a times the divisor f plus b times the polynomial of the step's equation
pub record IsEuclidStep {F : Type 0} (p : ℕ) (polynomials : List Coefficients) (f : Coefficients) (step : EuclidStep F) (g : Coefficients) : Type 0 where
  pub polynomial : Coefficients
  pub at : slice_get polynomials step.equation ≡ Some polynomial
  pub combination : IsCombination p f polynomial step.a step.b g
  pub low_a : length step.a ≤ 256
  pub low_b : length step.b ≤ 256
  pub low : length g ≤ 256

-- steps one after another, from a first divisor to the last one
pub data LeadsTo {F : Type 0} (p : ℕ) (polynomials : List Coefficients) : Coefficients → List (EuclidStep F) → Coefficients → Type 0 where
  nothing : {f : Coefficients} → LeadsTo p polynomials f [] f
  next : {f last : Coefficients} {steps : List (EuclidStep F)} (step : EuclidStep F) (g : Coefficients) → IsEuclidStep p polynomials f step g → LeadsTo p polynomials g steps last → LeadsTo p polynomials f (step ∷ steps) last

-- a disequation is false at a root: its polynomial is the quotient times X less the root
pub record IsCase {F : Type 0} (p : ℕ) (others : List Coefficients) (root : ℕ) (case : RootCase F) : Type 0 where
  pub polynomial : Coefficients
  pub at : slice_get others case.disequation ≡ Some polynomial
  pub division : SameUnivariate p polynomial (times case.quotient ((p - root) ∷ 1 ∷ []))
  pub low : length case.quotient ≤ 256

-- the same of each root
abbrev pub AreCases : {F : Type 0} → ℕ → List Coefficients → List ℕ → List (RootCase F) → Type 0
AreCases p others [] [] = Unit {0}
AreCases p others [] (c ∷ cs) = ⊥
AreCases p others (root ∷ roots) [] = ⊥
AreCases p others (root ∷ roots) (c ∷ cs) = IsCase p others root c × AreCases p others roots cs

-- the roots of g with the identity that proves them, and at each a disequation that is false
pub record AreRefutedRoots {F : Type 0} (p : ℕ) (others : List Coefficients) (g : Coefficients) (roots : Roots F) (cases : List (RootCase F)) : Type 0 where
  pub some : 2 ≤ length g
  pub chain : IsChain p g roots.chain.steps
  pub lower : AreLower g roots.chain.steps
  pub identity : IsCombination p g (without_x p (last_remainder indeterminate roots.chain.steps)) roots.a roots.b (product_of_roots p roots.zeros)
  pub short : (length roots.a ≤ length g) × (length roots.b ≤ length g)
  pub few : length roots.zeros < length g
  pub each : AreCases p others roots.zeros cases

-- a divisor g refutes: it is a constant other than 0, or some disequation is false at each of its roots
abbrev pub EndsIn : {F : Type 0} → ℕ → List Coefficients → Coefficients → Ending F → Type 0
EndsIn p others g ending.Constant = IsNormal p g × (length g ≡ 1)
EndsIn p others g (ending.Roots roots cases) = AreRefutedRoots p others g roots cases.items

-- Reasons force that the equalities of `equations` hold and those of `disequations` do not, and no value of the constant x makes it
-- so, by polynomials with at most 256 coefficients. The table has so many nodes.
pub record IsRefutedByRoots {F : Type 0} (c : NodeCheck) (p : ℕ) (reasons : List Reason) (nodes x : ℕ) (equations disequations : List ℕ) (start : ℕ) (steps : List (EuclidStep F)) (end : Ending F) : Type 0 where
  pub size : nodes ≡ length c.nodes
  pub few_nodes : nodes ≤ most_nodes
  pub there : x < nodes
  pub forced : List Literal
  pub forces : Forces c [] reasons forced
  pub lemma : IsFalseLemma c p forced (map minus equations ++ map plus disequations)
  pub polynomials : List Coefficients
  pub equations_are : ArePolynomialsOf c.nodes p x equations polynomials
  pub others : List Coefficients
  pub disequations_are : ArePolynomialsOf c.nodes p x disequations others
  pub first : Coefficients
  pub first_at : slice_get polynomials start ≡ Some first
  pub few_steps : length steps ≤ 256
  pub divisor : Coefficients
  pub euclid : LeadsTo p polynomials first steps divisor
  pub end_is : EndsIn p others divisor end
