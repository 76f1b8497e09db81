-- The lines that refutations are written as.
use Rattle.std.specs.Prelude.{ℕ, ◌+◌, ◌-◌, ◌<◌, ◌≤◌, ◌==◌, if◌then◌else◌, List, [], ◌∷◌, ◌++◌, All, length, map, Some}
use Rattle.ffc_cert.specs.declared.entries.CertLine.{CertLine}
use Rattle.ffc_cert.specs.declared.entries.CertLine.TheVariants.{Lemma, Combine, Chain, Split, Close}
use Rattle.ffc_clause.specs.Clauses.{Literal}
use Rattle.ffc_ring.specs.Monomial.{Monomial}
use Rattle.ffc_ring.specs.Polynomial.{Terms}
use Rattle.ffc_uni.specs.Univariate.{Coefficients, IsNormal, terms_in}
use Rattle.ffc_uni.specs.Chains.{Pair}
use Rattle.ffc_roots.specs.declared.found.Roots.{Roots}
use Rattle.ffc_trees.specs.Closing.{written_step}
use Rattle.ffc_refutation.specs.declared.reason.Reason.{Reason}
use Rattle.ffc_refutation.specs.Forcing.{line_of}
use Rattle.ffc_refutation.specs.Written.{empty_by}
use Rattle.ffc_lemmatree.specs.declared.cases.CaseNumbers.{CaseNumbers}
use Rattle.ffc_lemmatree.specs.declared.endings.EuclidStep.{EuclidStep}
use Rattle.ffc_lemmatree.specs.declared.endings.RootCase.{RootCase}
use Rattle.ffc_lemmatree.specs.declared.endings.Ending.{Ending}
use Rattle.ffc_lemmatree.specs.declared.endings.Ending.TheVariants as ending

-- the clauses of reasons, a lemma with its tree, and the empty clause
abbrev pub refutation_lines : List Reason → ℕ → List Literal → List CertLine → List CertLine
refutation_lines reasons order lits tree =
    map line_of reasons ++ (Lemma (Some order) lits ∷ (tree ++ empty_by (length reasons + 1) ∷ []))

-- Polynomials

-- the terms with other coefficients than 0
abbrev pub nonzero : Terms → Terms
nonzero [] = []
nonzero (t ∷ ts) = if t.0 == 0 then nonzero ts else t ∷ nonzero ts

-- a polynomial in x
abbrev pub written_in : ℕ → Coefficients → Terms
written_in x a = nonzero (terms_in x a)

-- terms times a monomial whose variables are above all of theirs
abbrev pub appended : Monomial → Terms → Terms
appended m [] = []
appended m (t ∷ ts) = (t.0, t.1 ++ m) ∷ appended m ts

-- Lines of the tree over roots, where p is the order and x the variable

-- the sum of two lines, each times a polynomial
abbrev pub sum_line : ℕ → ℕ → Coefficients → ℕ → Coefficients → CertLine
sum_line x j a k b = Combine ((j, written_in x a) ∷ (k, written_in x b) ∷ [])

-- The steps of Euclid's algorithm from the divisor in the line `last` on. Their lines have numbers from `next` on.
abbrev pub euclid_lines : {F : Type 0} → ℕ → ℕ → ℕ → List (EuclidStep F) → List CertLine
euclid_lines x last next [] = []
euclid_lines x last next (s ∷ steps) = sum_line x last s.a s.equation s.b ∷ euclid_lines x next (next + 1) steps

-- the number of the last divisor's line after so many steps
abbrev pub last_divisor : ℕ → ℕ → ℕ → ℕ
last_divisor start first count = if count == 0 then start else first + (count - 1)

-- a case closes: X less the root, times the quotient and the inverse, less the line of the disequation, is 1
abbrev pub root_case_lines : {F : Type 0} → ℕ → CaseNumbers → RootCase F → List CertLine
root_case_lines p n c =
    Combine ((n.root_line, appended ((n.first_inverse + c.disequation, 1) ∷ []) (written_in n.variable c.quotient)) ∷ (n.first_line + c.disequation, (p - 1, []) ∷ []) ∷ []) ∷ Close ∷ []

abbrev pub all_case_lines : {F : Type 0} → ℕ → CaseNumbers → List (RootCase F) → List CertLine
all_case_lines p n [] = []
all_case_lines p n (c ∷ cs) = root_case_lines p n c ++ all_case_lines p n cs

-- no root closes, and else there is a case for each; the line of the product is before that of X less the root
abbrev pub split_lines : {F : Type 0} → ℕ → CaseNumbers → List ℕ → List (RootCase F) → List CertLine
split_lines p n [] cases = Close ∷ []
split_lines p n (root ∷ roots) cases = Split (n.root_line - 1) n.variable (root ∷ roots) ∷ all_case_lines p n cases

-- what follows the line `last` of a divisor with these roots, where `next` is the number of the chain's line
abbrev pub roots_lines : {F : Type 0} → ℕ → ℕ → ℕ → CaseNumbers → Roots F → List (RootCase F) → List CertLine
roots_lines p last next n roots cases =
    Chain last n.variable (length roots.chain.steps)
    ∷ (map written_step roots.chain.steps ++ (sum_line n.variable last roots.a next roots.b ∷ split_lines p n roots.zeros cases))

-- a constant divisor closes
abbrev pub constant_lines : ℕ → List CertLine
constant_lines last = Combine ((last, (1, []) ∷ []) ∷ []) ∷ Close ∷ []

-- the numbers of cases where `next` is the number of the chain's line, after so many equations, in a table of so many nodes
abbrev pub case_numbers : ℕ → ℕ → ℕ → ℕ → CaseNumbers
case_numbers x nodes equations next =
    record { variable = x; first_line = equations; first_inverse = nodes + equations; root_line = next + 2 }

abbrev pub ending_lines : {F : Type 0} → ℕ → ℕ → ℕ → CaseNumbers → Ending F → List CertLine
ending_lines p last next n ending.Constant = constant_lines last
ending_lines p last next n (ending.Roots roots cases) = roots_lines p last next n roots cases.items

-- the tree, where so many first lines are of equations, and then so many of disequations
abbrev pub single_tree : {F : Type 0} → ℕ → ℕ → ℕ → ℕ → ℕ → ℕ → List (EuclidStep F) → Ending F → List CertLine
single_tree p x nodes equations disequations start steps end =
    euclid_lines x start (equations + disequations) steps
    ++ ending_lines p (last_divisor start (equations + disequations) (length steps)) (equations + disequations + length steps) (case_numbers x nodes equations (equations + disequations + length steps)) end

-- What is known of numbers by their type

abbrev pub IsNormalStep : {F : Type 0} → ℕ → EuclidStep F → Type 0
IsNormalStep p s = IsNormal p s.a × IsNormal p s.b

abbrev pub IsNormalPair : ℕ → Pair → Type 0
IsNormalPair p s = IsNormal p s.0 × IsNormal p s.1

abbrev pub IsNormalCase : {F : Type 0} → ℕ → RootCase F → Type 0
IsNormalCase p c = IsNormal p c.quotient

-- the polynomials that prove the roots are normal, and the roots are residues
pub record AreNormalRoots {F : Type 0} (p : ℕ) (roots : Roots F) (cases : List (RootCase F)) : Type 0 where
  pub steps : All (IsNormalPair p) roots.chain.steps
  pub a : IsNormal p roots.a
  pub b : IsNormal p roots.b
  pub residues : All (λ z. z < p) roots.zeros
  pub quotients : All (IsNormalCase p) cases

abbrev pub IsNormalEnding : {F : Type 0} → ℕ → Ending F → Type 0
IsNormalEnding p ending.Constant = Unit {0}
IsNormalEnding p (ending.Roots roots cases) = AreNormalRoots p roots cases.items

-- What is few enough to be written

abbrev pub IsLowStep : {F : Type 0} → EuclidStep F → Type 0
IsLowStep s = (length s.a ≤ 256) × (length s.b ≤ 256)

-- the disequation is one of so many
abbrev pub IsLowCase : {F : Type 0} → ℕ → RootCase F → Type 0
IsLowCase count c = (c.disequation < count) × (length c.quotient ≤ 256)

pub record AreLowRoots {F : Type 0} (count : ℕ) (roots : Roots F) (cases : List (RootCase F)) : Type 0 where
  pub few : length roots.chain.steps ≤ 126
  pub a : length roots.a ≤ 256
  pub b : length roots.b ≤ 256
  pub quotients : All (IsLowCase count) cases

abbrev pub IsLowEnding : {F : Type 0} → ℕ → Ending F → Type 0
IsLowEnding count ending.Constant = Unit {0}
IsLowEnding count (ending.Roots roots cases) = AreLowRoots count roots cases.items

-- all that is written: the table has so many nodes, and there are so many disequations
pub record IsLow {F : Type 0} (nodes count : ℕ) (steps : List (EuclidStep F)) (end : Ending F) : Type 0 where
  pub few_nodes : nodes ≤ 1048576
  pub few_steps : length steps ≤ 256
  pub each : All IsLowStep steps
  pub ending : IsLowEnding count end
