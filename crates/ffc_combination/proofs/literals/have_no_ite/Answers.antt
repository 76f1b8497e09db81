use Rattle.std.proofs.Common.{◌≡◌, true, false, cond, if◌then◌else◌, get_or, sym, ap, ◌∙◌}
use Rattle.ffc_bounds.specs.Conjunctions.{is_field_ite}
use Rattle.ffc_term.specs.Nodes.{node_at}
use Rattle.ffc_term.proofs.RootLemmas.{one_passed}
use Rattle.ffc_rules.proofs.AssignmentLemmas.{node_at-is}
use Rattle.ffc_linear.proofs.SuppositionLemmas.{one_failed}
use Rattle.ffc_combination.proofs.literals.have_no_ite.Goals as goal

pub returns-then-is_field_ite : goal.returns-then-is_field_ite
returns-then-is_field_ite c =
    let ns = c.args.table.now in
    let nodes = c.args.nodes.now in
    let i = c.loop-id.id-index in
    let x = get_or nodes i 0 in
    let is : is_field_ite (node_at ns x) ≡ true = ap is_field_ite (node_at-is ns x c.node.result.now c.node.ensures.at) ∙ sym c.is_field_ite.ensures ∙ c.if-is_field_ite.true in
    one_failed (λ id. if is_field_ite (node_at ns id) then false else true) nodes i _ c.loop-id-test.true (ap (λ b. cond b false true) is) c.loop-id.invariant

pub loop-id-preserved : goal.loop-id-preserved
loop-id-preserved c =
    let ns = c.args.table.now in
    let nodes = c.args.nodes.now in
    let i = c.loop-id.id-index in
    let x = get_or nodes i 0 in
    let is : is_field_ite (node_at ns x) ≡ false = ap is_field_ite (node_at-is ns x c.node.result.now c.node.ensures.at) ∙ sym c.is_field_ite.ensures ∙ c.if-is_field_ite.false in
    one_passed (λ id. if is_field_ite (node_at ns id) then false else true) nodes i _ c.loop-id-test.true (ap (λ b. cond b false true) is) c.loop-id.invariant
