use Rattle.std.proofs.Common.{◌≡◌, ℕ, Some, None, Option, ap, sym, subst, ◌∙◌}
use Rattle.ffc_field.specs.Orders.{order_of_id}
use Rattle.ffc_term.specs.Checks.{IsValidCheck}
use Rattle.ffc_smt.specs.Scripts.{order_or_two}
use Rattle.ffc_smt.specs.TableChecks.{declared_nodes, nodes_in_force}
use Rattle.ffc_elab.specs.Histories.{check_now, known_of}
use Rattle.ffc_script.proofs.reader.ScriptReader.check.Goals as goal
use Rattle.ffc_script.proofs.reader.ScriptReader.check.Goals.{in-Some, in-None}

pub returns-clause-valid : goal.returns-clause-valid
returns-clause-valid c =
    let k = known_of c.self.inside.context in
    let order : order_or_two k.state.first_order ≡ c.match-field.first_order = elim c.match-field.branch [
      | in-Some w ↦ let field : Some (order_of_id w.in-Some.field) ≡ k.state.first_order = w.in-Some.ensures in sym (ap order_or_two field) ∙ sym w.order-first_order.ensures ∙ sym w.first_order-is
      | in-None w ↦ let field : ◌≡◌ {A = Option ℕ} None k.state.first_order = w.in-None.ensures in sym (ap order_or_two field) ∙ sym w.first_order-is
    ] in
    subst (λ ns. IsValidCheck ns c.declared_nodes.result.now c.in_force.result.now c.match-field.first_order) (sym c.table.ensures)
    (subst (λ ds. IsValidCheck k.state.nodes ds c.in_force.result.now c.match-field.first_order) (sym c.declared_nodes.ensures.nodes)
    (subst (λ fs. IsValidCheck k.state.nodes (declared_nodes (check_now k)) fs c.match-field.first_order) (sym c.in_force.ensures.nodes)
    (subst (λ p. IsValidCheck k.state.nodes (declared_nodes (check_now k)) (nodes_in_force (check_now k)) p) order c.stays_sound.ensures.check.valid)))
