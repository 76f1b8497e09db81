-- When a check may be left undecided, by the cause that is given: an equality of it passes a limit, or the budget is spent; in
-- both cases the check has more assignments than can be gone through, or more work than 2^24.
use Rattle.std.specs.Prelude.{◌≡◌, ℕ, ◌+◌, ◌/◌, Bool, true, not, ◌==◌, ◌&&◌, nat_lt, nat_le, min, length, if◌then◌else◌}
use Rattle.std.specs.List.{list_any}
use Rattle.ffc_cert.specs.declared.entries.Entry.{Entry}
use Rattle.ffc_cert.specs.declared.entries.Entry.TheVariants.{Sat, UnsatCases, UnsatSteps, Unknown}
use Rattle.ffc_cert.specs.declared.entries.Cause.{Cause}
use Rattle.ffc_cert.specs.declared.entries.Cause.TheVariants.{Degree, Terms, Steps, Memory}
use Rattle.ffc_term.specs.Measuring.{degree_at, length_at}
use Rattle.ffc_rules.specs.Cones.{cone, atoms, span, work}
use Rattle.ffc_rules.specs.Assignments.{has_model_below}
use Rattle.ffc_rules.specs.Entries.{Limits, limits, NodeCheck}

-- few enough assignments for a budget, and little enough work
unfoldable pub is_small : Limits → NodeCheck → ℕ → Bool
is_small l c budget = nat_le (work c.nodes c.in_force) l.work && nat_le (span c.nodes c.in_force) budget

-- some equality among the check's nodes passes the limit on degrees, and on lengths
abbrev pub passes_degree : Limits → NodeCheck → Bool
passes_degree l c = list_any (λ id. nat_lt l.degree (degree_at c.nodes id)) (atoms c.nodes c.in_force)

abbrev pub passes_length : Limits → NodeCheck → Bool
passes_length l c = list_any (λ id. nat_lt l.length (length_at c.nodes id)) (atoms c.nodes c.in_force)

-- how many assignments are tried first
unfoldable pub first_count : Limits → NodeCheck → ℕ → ℕ
first_count l c budget =
    let size = length (cone c.nodes c.in_force) in
    if size == 0 then 0 else min (budget / 2) (l.work / size)

-- Memory may be out at any time.
unfoldable pub is_cause_within : Limits → NodeCheck → ℕ → Cause → Bool
is_cause_within l c budget Degree = not (is_small l c budget) && passes_degree l c
is_cause_within l c budget Terms = not (is_small l c budget) && (not (passes_degree l c) && passes_length l c)
is_cause_within l c budget (Steps trials reductions assignments chains) =
    not (is_small l c budget)
    && (not (passes_degree l c)
    && (not (passes_length l c)
    && (trials + reductions + assignments + chains == budget
    && not (has_model_below c.nodes c.in_force (first_count l c budget)))))
is_cause_within l c budget Memory = true

-- an undecided check is left so for the stated cause; an entry of another kind states none
abbrev pub Caused : ℕ → NodeCheck → Entry → Type 0
Caused budget c (Unknown cause) = is_cause_within limits c budget cause ≡ true
Caused budget c (Sat pairs) = Unit {0}
Caused budget c UnsatCases = Unit {0}
Caused budget c (UnsatSteps lines) = Unit {0}
