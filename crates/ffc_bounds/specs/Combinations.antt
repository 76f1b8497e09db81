-- Which checks a combination of what propagation forces refutes or solves, up to a degree (Hilbert's Nullstellensatz by linear algebra:
-- Macaulay 1902; Lazard 1983), and within how many units.
--
-- The generators are the lines of a lemma whose literals are false: the difference of the sides of each equality that is forced,
-- and, where disequations are among them too, that difference times a variable of its own less 1.
use Rattle.std.specs.Prelude.{◌≡◌, ℕ, ◌+◌, ◌-◌, ◌*◌, ◌<◌, ◌≤◌, ◌&&◌, ◌↔◌, Bool, true, false, nat_le, if◌then◌else◌, List, [], ◌∷◌, ◌++◌, length, map, filter, sum_by, slice_index_or, All, Contains}
use Rattle.std.specs.List.{range_with_len}
use Rattle.std.specs.List.Sorted.{IsStrictlyIncreasing}
use Rattle.ffc_bounds.specs.Conjunctions.{field_constants, field_order, has_no_ite, has_one_order, is_conjunction}
use Rattle.ffc_bounds.specs.Forced.{IsForced}
use Rattle.ffc_bounds.specs.Monomials.{monomials, columns}
use Rattle.ffc_clause.specs.Clauses.{Literal, plus, minus}
use Rattle.ffc_refutation.specs.Combinations.{Summand, sum_of}
use Rattle.ffc_ring.specs.Polynomial.{Terms, SamePolynomial, difference}
use Rattle.ffc_rules.specs.Causes.{passes_degree, passes_length}
use Rattle.ffc_rules.specs.Cones.{cone, atoms}
use Rattle.ffc_rules.specs.Entries.{NodeCheck, limits}
use Rattle.ffc_term.specs.declared.node.Node.{Node}
use Rattle.ffc_term.specs.Measuring.{degree_at}
use Rattle.ffc_term.specs.Nodes.{node_at}
use Rattle.ffc_trees.specs.FirstLines.{first_lines}
use Rattle.ffc_trees.specs.NodePolynomials.{is_variable, constant, variable}

-- the equalities among the check's nodes that are forced, and those whose negations are, in increasing order
pub record AreForcedEqualities (c : NodeCheck) (equal unequal : List ℕ) : Type 0 where
  pub equal_increase : IsStrictlyIncreasing equal
  pub unequal_increase : IsStrictlyIncreasing unequal
  pub equal_are : (id : ℕ) → Contains equal id ↔ (Contains (atoms c.nodes c.in_force) id × IsForced c (plus id))
  pub unequal_are : (id : ℕ) → Contains unequal id ↔ (Contains (atoms c.nodes c.in_force) id × IsForced c (minus id))

-- all of these disequations, or none
abbrev pub chosen : Bool → List ℕ → List ℕ
chosen false unequal = []
chosen true unequal = unequal

-- the literals of the lemma: the negations of what is forced
abbrev pub literals_of : List ℕ → List ℕ → List Literal
literals_of equal unequal = map minus equal ++ map plus unequal

-- the degrees that the generators have at most: that of an equality, and one more with the variable of a disequation
abbrev pub degrees_of : List Node → List ℕ → List ℕ → List ℕ
degrees_of nodes equal unequal = map (degree_at nodes) equal ++ map (λ id. degree_at nodes id + 1) unequal

-- the variables of the check's polynomials
abbrev pub node_variables : List Node → List ℕ → List ℕ
node_variables nodes ids = filter (λ id. is_variable (node_at nodes id)) (cone nodes ids)

-- these, and the variables of the disequations, numbered as in the lines of the lemma
abbrev pub variables_of : NodeCheck → List ℕ → List ℕ → List ℕ
variables_of c equal unequal =
    node_variables c.nodes c.in_force ++ range_with_len (length c.nodes + length equal) (length unequal)

-- how many rows there are of generators of these degrees: one with a degree above d has none
abbrev pub row_count : ℕ → List ℕ → List ℕ → ℕ
row_count d xs degrees = sum_by (λ e. if nat_le e d then columns (d - e) xs else 0) degrees

-- the units of one degree, in which the matrix is not larger than 4096
abbrev pub degree_units : ℕ → List ℕ → List ℕ → ℕ
degree_units d xs degrees =
    if nat_le (columns d xs) 4096 && nat_le (row_count d xs degrees) 4096 then 2 * row_count d xs degrees * columns d xs else 0

-- the units of the degrees from 2 on, so many of them
abbrev pub units_of : ℕ → List ℕ → List ℕ → ℕ
units_of count xs degrees = sum_by (λ d. degree_units d xs degrees) (range_with_len 2 count)

abbrev pub choice_units : ℕ → NodeCheck → List ℕ → List ℕ → ℕ
choice_units count c equal unequal = units_of count (variables_of c equal unequal) (degrees_of c.nodes equal unequal)

-- the units of the equalities alone, and then with the disequations, where there are some
abbrev pub combination_units : ℕ → NodeCheck → List ℕ → List ℕ → ℕ
combination_units count c equal [] = choice_units count c equal []
combination_units count c equal (id ∷ ids) = choice_units count c equal [] + choice_units count c equal (id ∷ ids)

-- a multiple of a generator by a residue and a monomial, whose degrees sum to at most d
pub record IsMultiple (p d : ℕ) (xs degrees : List ℕ) (s : Summand) : Type 0 where
  pub there : s.0 < length degrees
  pub residue : s.1.0 < p
  pub monomial : Contains (monomials (d - slice_index_or degrees s.0 0) xs) s.1.1

-- A choice of generators at a degree of at most 1024 that a budget reaches: none of them has a higher degree, the matrix is not larger
-- than 4096, and the budget has the units of all degrees up to that one, and one for each node. The field nodes have one order, there
-- is a variable, and no equality passes a limit.
pub record IsReached (budget : ℕ) (c : NodeCheck) (equal unequal : List ℕ) (all : Bool) (degree : ℕ) : Type 0 where
  pub one_field : has_one_order c.nodes c.in_force ≡ true
  pub low : passes_degree limits c ≡ false
  pub short : passes_length limits c ≡ false
  pub forced : AreForcedEqualities c equal unequal
  pub least : 2 ≤ degree
  pub most : degree ≤ 1024
  pub generators_low : All (λ e. e ≤ degree) (degrees_of c.nodes equal (chosen all unequal))
  pub unequal_low : All (λ id. degree_at c.nodes id ≤ degree) unequal
  pub some_variable : 0 < length (node_variables c.nodes c.in_force)
  pub few_columns : columns degree (variables_of c equal (chosen all unequal)) ≤ 4096
  pub few_rows : row_count degree (variables_of c equal (chosen all unequal)) (degrees_of c.nodes equal (chosen all unequal)) ≤ 4096
  pub enough : length (cone c.nodes c.in_force) + combination_units (degree - 1) c equal unequal ≤ budget

-- the lines of a choice of generators
abbrev pub chosen_lines : NodeCheck → List ℕ → List ℕ → Bool → List Terms
chosen_lines c equal unequal all = first_lines c.nodes (field_order c.nodes c.in_force) (literals_of equal (chosen all unequal))

-- multiples of the generators of a choice up to a degree
abbrev pub AreMultiples : NodeCheck → List ℕ → List ℕ → Bool → ℕ → List Summand → Type 0
AreMultiples c equal unequal all degree summands = All (IsMultiple (field_order c.nodes c.in_force) degree (variables_of c equal (chosen all unequal)) (degrees_of c.nodes equal (chosen all unequal))) summands

-- some sum of such multiples is 1
pub record IsRefutedByCombination (budget : ℕ) (c : NodeCheck) : Type 0 where
  pub equal : List ℕ
  pub unequal : List ℕ
  pub all : Bool
  pub degree : ℕ
  pub reached : IsReached budget c equal unequal all degree
  pub summands : List Summand
  pub each : AreMultiples c equal unequal all degree summands
  pub sum : SamePolynomial (field_order c.nodes c.in_force) (sum_of (chosen_lines c equal unequal all) summands) (constant 1)

-- some sum of such multiples is a constant of the check less a residue
pub record DeterminesConstant (c : NodeCheck) (equal unequal : List ℕ) (all : Bool) (degree x : ℕ) : Type 0 where
  pub value : ℕ
  pub residue : value < field_order c.nodes c.in_force
  pub summands : List Summand
  pub each : AreMultiples c equal unequal all degree summands
  pub sum : SamePolynomial (field_order c.nodes c.in_force) (sum_of (chosen_lines c equal unequal all) summands) (difference (field_order c.nodes c.in_force) (variable x) (constant value))

-- Of a conjunction of equations and disequations without `ite`, such sums determine each constant.
pub record IsSolvedByCombination (budget : ℕ) (c : NodeCheck) : Type 0 where
  pub conjunction : is_conjunction c.nodes c.in_force ≡ true
  pub no_ite : has_no_ite c.nodes c.in_force ≡ true
  pub equal : List ℕ
  pub unequal : List ℕ
  pub all : Bool
  pub degree : ℕ
  pub reached : IsReached budget c equal unequal all degree
  pub each : All (DeterminesConstant c equal unequal all degree) (field_constants c.nodes c.in_force)
