use Rattle.std.proofs.Common.{◌≡◌, ◌+◌, ◌-◌, ◌<◌, ◌≤◌, ℕ, length, filter, sym, ap, ◌∙◌, arith}
use Rattle.std.proofs.lemmas.Bool.{eqb-true}
use Rattle.ffc_base.specs.Metering.{total}
use Rattle.ffc_bounds.specs.Combinations.{node_variables}
use Rattle.ffc_check.specs.Judged.{judged_check}
use Rattle.ffc_rules.specs.Cones.{cone}
use Rattle.ffc_term.specs.Nodes.{node_at}
use Rattle.ffc_trees.specs.NodePolynomials.{is_variable}
use Rattle.ffc_combination.proofs.CountLemmas.{none_reached}
use Rattle.ffc_combination.proofs.RecordLemmas.{not_refuted, not_solved}
use Rattle.ffc_combination.proofs.refuting.combination.Goals as goal

pub returns-then-is_empty-clause-none : goal.returns-then-is_empty-clause-none
returns-then-is_empty-clause-none g c _ r =
    let check = judged_check c.args.check.now in
    let variables = c.in_ok-variables.variables in
    let all = c.in_ok-variables.ensures ∙ ap (filter (λ (id : ℕ). is_variable (node_at check.nodes id))) (c.as_slice.ensures.value ∙ c.requires.cone.all) in
    let none = eqb-true variables.len 0 (sym c.is_empty.ensures ∙ c.if-is_empty.true) in
    let some = r.reached.some_variable in
    omega (arith, none, variables.ok.0, ap length all, some)

pub returns-then-is_empty-clause-unsolved : goal.returns-then-is_empty-clause-unsolved
returns-then-is_empty-clause-unsolved g c _ r =
    let check = judged_check c.args.check.now in
    let variables = c.in_ok-variables.variables in
    let all = c.in_ok-variables.ensures ∙ ap (filter (λ (id : ℕ). is_variable (node_at check.nodes id))) (c.as_slice.ensures.value ∙ c.requires.cone.all) in
    let none = eqb-true variables.len 0 (sym c.is_empty.ensures ∙ c.if-is_empty.true) in
    let some = r.reached.some_variable in
    omega (arith, none, variables.ok.0, ap length all, some)

pub returns-then-len-gt-MOST_VARIABLES-clause-none : goal.returns-then-len-gt-MOST_VARIABLES-clause-none
returns-then-len-gt-MOST_VARIABLES-clause-none g c _ r =
    let check = judged_check c.args.check.now in
    let variables = c.in_ok-variables.variables in
    let all : variables.items ≡ node_variables check.nodes check.in_force = c.in_ok-variables.ensures ∙ ap (filter (λ (id : ℕ). is_variable (node_at check.nodes id))) (c.as_slice.ensures.value ∙ c.requires.cone.all) in
    let many : 89 < length (node_variables check.nodes check.in_force) = omega (arith, c.len.ensures, variables.ok.0, ap length all, c.if-len-gt-MOST_VARIABLES.true) in
    none_reached (length (cone check.nodes check.in_force) + (c.args.meter.now.budget - total c.args.meter.now)) check r.equal r.unequal r.all r.degree many r.reached

pub returns-then-len-gt-MOST_VARIABLES-clause-unsolved : goal.returns-then-len-gt-MOST_VARIABLES-clause-unsolved
returns-then-len-gt-MOST_VARIABLES-clause-unsolved g c _ r =
    let check = judged_check c.args.check.now in
    let variables = c.in_ok-variables.variables in
    let all : variables.items ≡ node_variables check.nodes check.in_force = c.in_ok-variables.ensures ∙ ap (filter (λ (id : ℕ). is_variable (node_at check.nodes id))) (c.as_slice.ensures.value ∙ c.requires.cone.all) in
    let many : 89 < length (node_variables check.nodes check.in_force) = omega (arith, c.len.ensures, variables.ok.0, ap length all, c.if-len-gt-MOST_VARIABLES.true) in
    none_reached (length (cone check.nodes check.in_force) + (c.args.meter.now.budget - total c.args.meter.now)) check r.equal r.unequal r.all r.degree many r.reached

pub returns-clause-none : goal.returns-clause-none
returns-clause-none g c e =
    let check = judged_check c.args.check.now in
    let left : total c.args.meter.now ≤ c.args.meter.now.budget = omega (arith, c.left-left.ensures) in
    not_refuted check g.F.Field.ORDER c.args.reasons.now c.in_ok-choices.choices c.in_ok-choices.ensures c.args.meter.now (c.searched.ensures.none e) left

pub returns-clause-unsolved : goal.returns-clause-unsolved
returns-clause-unsolved g c e =
    let check = judged_check c.args.check.now in
    let left : total c.args.meter.now ≤ c.args.meter.now.budget = omega (arith, c.left-left.ensures) in
    not_solved check g.F.Field.ORDER c.args.reasons.now c.in_ok-choices.choices c.in_ok-choices.ensures c.args.meter.now (c.searched.ensures.none e) left
