-- Flat checks in one constant that are decided within a budget. A check is flat where its assertions are made of true, equalities
-- and negations of equalities by `and` alone, over one field and without `ite`, within the limits on degree and length. The
-- common roots of its equations are those of a common divisor of their polynomials (Cox, Little and O'Shea, "Ideals, Varieties,
-- and Algorithms", chapter 1, section 5), and these are found by dividing them by whether root + k is a square (Rabin,
-- "Probabilistic algorithms in finite fields", 1980), for the numbers k from 0 on.
use Rattle.std.specs.Prelude.{◌≡◌, ◌≢◌, ℕ, ◌+◌, ◌*◌, ◌^◌, ◌<◌, ◌≤◌, max, true, false, [], length, All, Contains}
use Rattle.ffc_bounds.specs.Conjunctions.{is_conjunction, equations, field_order, has_one_order, field_constants, has_no_ite}
use Rattle.ffc_ring.specs.Polynomial.{SamePolynomial, poly_value}
use Rattle.ffc_roots.specs.Separation.{Separates, unit_bound}
use Rattle.ffc_rules.specs.Causes.{passes_degree, passes_length}
use Rattle.ffc_rules.specs.Entries.{NodeCheck, limits}
use Rattle.ffc_term.specs.Measuring.{degree_at, greatest_by}
use Rattle.ffc_term.specs.Nodes.{node_at}
use Rattle.ffc_trees.specs.FirstLines.{difference_of}

-- the order of the check's field
abbrev pub order_of : NodeCheck → ℕ
order_of c = field_order c.nodes c.in_force

-- a residue at which the polynomials of all equations are 0
abbrev pub IsCommonRoot : NodeCheck → ℕ → Type 0
IsCommonRoot c x =
    (x < order_of c)
    × All (λ id. poly_value (order_of c) (λ _. x) (difference_of (order_of c) c.nodes (node_at c.nodes id)) ≡ 0) (equations c.nodes c.in_force)

-- each two different common roots are separated by some number below the bound
abbrev pub AreCommonRootsSeparated : NodeCheck → ℕ → Type 0
AreCommonRootsSeparated c bound =
    (s t : ℕ) → IsCommonRoot c s → IsCommonRoot c t → s ≢ t → (k : ℕ) × (k < bound) × Separates (order_of c) k s t

-- the greatest degree of an equation, and 0 where there is none
abbrev pub greatest_degree : NodeCheck → ℕ
greatest_degree c = greatest_by (degree_at c.nodes) (equations c.nodes c.in_force)

-- The units that are enough for m equations of degree e at most, whose common roots are separated by numbers below a bound: the
-- first summand is for the common divisor, the second for finding its roots, and the third for trying each.
abbrev pub single_units : ℕ → ℕ → ℕ → ℕ
single_units m e separation = (m + e) ^ 2 * (2 * e + 2) + max 1 (e * separation) * unit_bound e + e

-- a flat check in one constant, with equations of which one is not 0 everywhere, that so many units decide
pub record IsDecidedSingle (budget : ℕ) (c : NodeCheck) : Type 0 where
  pub one_field : has_one_order c.nodes c.in_force ≡ true
  pub conjunction : is_conjunction c.nodes c.in_force ≡ true
  pub no_ite : has_no_ite c.nodes c.in_force ≡ true
  pub low : passes_degree limits c ≡ false
  pub short : passes_length limits c ≡ false
  pub one_constant : length (field_constants c.nodes c.in_force) ≡ 1
  pub some : 1 ≤ length (equations c.nodes c.in_force)
  pub few : length (equations c.nodes c.in_force) ≤ 4096
  pub equation : ℕ
  pub asserted : Contains (equations c.nodes c.in_force) equation
  pub nonzero : SamePolynomial (order_of c) (difference_of (order_of c) c.nodes (node_at c.nodes equation)) [] → ⊥
  pub separation : ℕ
  pub separated : AreCommonRootsSeparated c separation
  pub enough : single_units (length (equations c.nodes c.in_force)) (greatest_degree c) separation ≤ budget
