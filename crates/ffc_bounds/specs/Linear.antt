-- Linear checks, and within how many units they are decided: Gaussian elimination reduces each equation and disequation by at
-- most one pivot for each constant, and then each constant's value is found among one more than there are disequations.
use Rattle.std.specs.Prelude.{ℕ, ◌+◌, ◌*◌, Bool, ◌&&◌, nat_lt, nat_le, length}
use Rattle.std.specs.List.{list_all}
use Rattle.ffc_term.specs.Measuring.{degree_at, length_at}
use Rattle.ffc_rules.specs.Cones.{atoms}
use Rattle.ffc_rules.specs.Entries.{Limits, NodeCheck}
use Rattle.ffc_bounds.specs.Conjunctions.{is_conjunction, equations, disequations, field_order, has_one_order, field_constants, has_no_ite}

-- how many constants, and how many equations and disequations together, a linear check may have
abbrev pub most_linear : ℕ
most_linear = 4096

-- each equality among the check's nodes has a degree of at most 1, and a length within the limit
abbrev pub is_affine : Limits → NodeCheck → Bool
is_affine l c =
    list_all (λ id. nat_le (degree_at c.nodes id) 1 && nat_le (length_at c.nodes id) l.length) (atoms c.nodes c.in_force)

-- a conjunction of affine equations and disequations over one field
unfoldable pub is_linear : Limits → NodeCheck → Bool
is_linear l c =
    is_conjunction c.nodes c.in_force
    && (has_no_ite c.nodes c.in_force
    && (has_one_order c.nodes c.in_force
    && is_affine l c))

-- how many constants, equations and disequations there are
abbrev pub constant_number : NodeCheck → ℕ
constant_number c = length (field_constants c.nodes c.in_force)

abbrev pub equation_number : NodeCheck → ℕ
equation_number c = length (equations c.nodes c.in_force)

abbrev pub disequation_number : NodeCheck → ℕ
disequation_number c = length (disequations c.nodes c.in_force)

-- the units that decide it: the first summand counts reductions, the second trials
abbrev pub linear_units : NodeCheck → ℕ
linear_units c =
    (equation_number c + disequation_number c) * constant_number c + constant_number c * (disequation_number c + 1)

-- a linear check that is decided within a budget. Over a field with more elements than there are disequations, affine forms
-- that are not constantly 0 are all different from 0 at some point.
unfoldable pub is_linear_within : Limits → NodeCheck → ℕ → Bool
is_linear_within l c budget =
    is_linear l c
    && (nat_lt (disequation_number c) (field_order c.nodes c.in_force)
    && (nat_le (constant_number c) most_linear
    && (nat_le (equation_number c + disequation_number c) most_linear
    && nat_le (linear_units c) budget)))
