use Rattle.std.proofs.Common.{◌≡◌, ◌&&◌, ℕ, List, nat_le, true, false, if◌then◌else◌, filter, length, sym, ap, ◌∙◌}
use Rattle.std.specs.List.{list_all}
use Rattle.ffc_bounds.specs.Conjunctions.{is_field_ite}
use Rattle.ffc_check.specs.Judged.{judged_check}
use Rattle.ffc_rules.specs.Cones.{is_equality}
use Rattle.ffc_term.specs.declared.node.Node.{Node}
use Rattle.ffc_term.specs.Measuring.{degree_at, length_at}
use Rattle.ffc_term.specs.Nodes.{node_at}
use Rattle.ffc_linear.proofs.SuppositionLemmas.{with_ite, not_affine, enough_values, too_few_values}
use Rattle.ffc_linear.proofs.suppositions.is_linear_within.Goals as goal
use Rattle.ffc_linear.proofs.suppositions.is_linear_within.Goals.{then-not-have_no_ite-via-then-not-have_no_ite, then-not-have_no_ite-via-else-not-have_no_ite+then-not-are_affine}

-- the tests of all nodes of the list are those of the check's
module _ (ns : List Node) (nodes all : List ℕ) (same : nodes ≡ all) where
  ite_test : list_all (λ id. if is_field_ite (node_at ns id) then false else true) nodes ≡ list_all (λ id. if is_field_ite (node_at ns id) then false else true) all
  ite_test = ap (list_all (λ id. if is_field_ite (node_at ns id) then false else true)) same

  affine_test : list_all (λ id. nat_le (degree_at ns id) 1 && nat_le (length_at ns id) 65536) (filter (λ id. is_equality (node_at ns id)) nodes)
      ≡ list_all (λ id. nat_le (degree_at ns id) 1 && nat_le (length_at ns id) 65536) (filter (λ id. is_equality (node_at ns id)) all)
  affine_test = ap (λ xs. list_all (λ id. nat_le (degree_at ns id) 1 && nat_le (length_at ns id) 65536) (filter (λ id. is_equality (node_at ns id)) xs)) same

pub returns-then-not-have_no_ite : goal.returns-then-not-have_no_ite
returns-then-not-have_no_ite c =
    let check = judged_check c.args.check.now in
    let ns = check.nodes in
    let all = c.as_slice-nodes.ensures.value ∙ c.requires.cone.all in
    elim c.then-not-have_no_ite.branch [
      | then-not-have_no_ite-via-then-not-have_no_ite w ↦
          with_ite check c.args.units c.requires.literals.plain c.requires.field (sym (ite_test ns _ _ all) ∙ sym c.have_no_ite.ensures ∙ w.if-not-have_no_ite.true)
      | then-not-have_no_ite-via-else-not-have_no_ite+then-not-are_affine w ↦
          not_affine check c.args.units c.requires.literals.plain c.requires.field (sym (affine_test ns _ _ all) ∙ sym w.are_affine.ensures ∙ w.if-not-are_affine.true)
    ]

pub returns-then-disequations-field_order : goal.returns-then-disequations-field_order
returns-then-disequations-field_order c =
    let check = judged_check c.args.check.now in
    let ns = check.nodes in
    let all = c.as_slice-nodes.ensures.value ∙ c.requires.cone.all in
    let conjunction = c.args.conjunction.now in
    enough_values check c.args.units c.requires.literals.plain c.requires.field
    (sym (ite_test ns _ _ all) ∙ sym c.have_no_ite.ensures ∙ c.if-not-have_no_ite.false)
    (sym (affine_test ns _ _ all) ∙ sym c.are_affine.ensures ∙ c.if-not-are_affine.false)
    (length c.args.constants.now) c.len-equations.result c.len-disequations.result c.field_order.result
    (ap length c.requires.constants)
    (c.len-equations.ensures ∙ conjunction.equations.ok.0 ∙ ap length c.requires.literals.equations_are)
    (c.len-disequations.ensures ∙ conjunction.disequations.ok.0 ∙ ap length c.requires.literals.disequations_are)
    c.field_order.ensures c.are_within.result c.if-disequations-field_order.true c.are_within.ensures

pub returns-else-disequations-field_order : goal.returns-else-disequations-field_order
returns-else-disequations-field_order c =
    let check = judged_check c.args.check.now in
    let ns = check.nodes in
    let all = c.as_slice-nodes.ensures.value ∙ c.requires.cone.all in
    let conjunction = c.args.conjunction.now in
    too_few_values check c.args.units c.requires.literals.plain c.requires.field
    (sym (ite_test ns _ _ all) ∙ sym c.have_no_ite.ensures ∙ c.if-not-have_no_ite.false)
    (sym (affine_test ns _ _ all) ∙ sym c.are_affine.ensures ∙ c.if-not-are_affine.false)
    (length c.args.constants.now) c.len-equations.result c.len-disequations.result c.field_order.result
    (ap length c.requires.constants)
    (c.len-equations.ensures ∙ conjunction.equations.ok.0 ∙ ap length c.requires.literals.equations_are)
    (c.len-disequations.ensures ∙ conjunction.disequations.ok.0 ∙ ap length c.requires.literals.disequations_are)
    c.field_order.ensures c.if-disequations-field_order.false
