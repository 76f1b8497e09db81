-- Lemmas by a combination of their first lines (Hilbert's Nullstellensatz): a sum of multiples of the lines, each by one term, is
-- a constant other than 0.
use Rattle.std.specs.Prelude.{◌≡◌, ℕ, ◌<◌, ◌≤◌, true, List, [], ◌∷◌, ◌++◌, All, Contains, length}
use Rattle.ffc_ring.specs.Monomial.{Monomial, IsMonomial, degree, mono_mul}
use Rattle.ffc_ring.specs.Polynomial.{Terms, SamePolynomial, difference, term_product}
use Rattle.ffc_smt.specs.Numbers.{is_order}
use Rattle.ffc_clause.specs.Clauses.{Literal, negated, is_among}
use Rattle.ffc_trees.specs.TreeLines.{line_at}
use Rattle.ffc_trees.specs.NodePolynomials.{constant, variable}
use Rattle.ffc_trees.specs.FirstLines.{first_lines}
use Rattle.ffc_rules.specs.Entries.{NodeCheck, limits, is_equality_at, is_within}
use Rattle.ffc_refutation.specs.declared.reason.Reason.{Reason}
use Rattle.ffc_refutation.specs.Forcing.{Forces}

-- the number of a line, and the term that it is multiplied by
abbrev pub Summand : Type 0
Summand = ℕ × (ℕ × Monomial)

-- the sum of the multiples
abbrev pub sum_of : List Terms → List Summand → Terms
sum_of lines [] = []
sum_of lines (s ∷ ss) = term_product s.1.0 s.1.1 (line_at lines s.0) ++ sum_of lines ss

-- the monomials of a line, multiplied, are among some
abbrev pub IsAmong : List Monomial → Monomial → Terms → Type 0
IsAmong monomials m line = All (λ t. Contains monomials (mono_mul m t.1)) line

-- a multiple of a line that is there, by a residue and a monomial, with few powers; all its monomials are among some
pub record IsSummand (p : ℕ) (lines : List Terms) (monomials : List Monomial) (s : Summand) : Type 0 where
  pub there : s.0 < length lines
  pub residue : s.1.0 < p
  pub monomial : IsMonomial s.1.1
  pub powers : length s.1.1 ≤ 16
  pub low : degree s.1.1 ≤ 1024
  pub short : length (line_at lines s.0) ≤ 8192
  pub among : IsAmong monomials s.1.1 (line_at lines s.0)

-- multiples of lines, within the limits of sums, that sum to a constant other than 0
pub record IsNonzeroConstant (p : ℕ) (lines : List Terms) (summands : List Summand) : Type 0 where
  pub monomials : List Monomial
  pub few : length monomials ≤ 65536
  pub low : All (λ m. degree m ≤ 1024) monomials
  pub each : All (IsSummand p lines monomials) summands
  pub value : ℕ
  pub nonzero : 0 < value
  pub residue : value < p
  pub sum : SamePolynomial p (sum_of lines summands) (constant value)

-- multiples of lines, within the limits of sums, that sum to a variable less a residue
pub record IsDetermined (p : ℕ) (lines : List Terms) (x value : ℕ) (summands : List Summand) : Type 0 where
  pub monomials : List Monomial
  pub few : length monomials ≤ 65536
  pub low : All (λ m. degree m ≤ 1024) monomials
  pub each : All (IsSummand p lines monomials) summands
  pub residue : value < p
  pub sum : SamePolynomial p (sum_of lines summands) (difference p (variable x) (constant value))

-- equalities of one order within the limits, and literals on them that are false where others are forced
pub record IsFalseLemma (c : NodeCheck) (p : ℕ) (forced lits : List Literal) : Type 0 where
  pub order : is_order p ≡ true
  pub equalities : All (λ x. is_equality_at c.nodes p x.1 ≡ true) lits
  pub within : All (λ x. is_within limits c.nodes x.1 ≡ true) lits
  pub false_of : All (λ x. is_among forced (negated x) ≡ true) lits

-- reasons force literals under which a lemma is false that a combination of its first lines proves
pub record IsRefuted (c : NodeCheck) (reasons : List Reason) (p : ℕ) (lits : List Literal) (summands : List Summand) : Type 0 where
  pub forced : List Literal
  pub forces : Forces c [] reasons forced
  pub lemma : IsFalseLemma c p forced lits
  pub combination : IsNonzeroConstant p (first_lines c.nodes p lits) summands
