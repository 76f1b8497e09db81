use Rattle.std.proofs.Common.{◌≡◌, ℕ, get_or, sym, ap, ◌∙◌}
use Rattle.ffc_rules.specs.Cones.{is_equality}
use Rattle.ffc_rules.proofs.AssignmentLemmas.{node_at-is}
use Rattle.ffc_term.specs.Nodes.{node_at}
use Rattle.ffc_trials.proofs.FieldLemmas.{kind_fails, kind_other, kind_holds}
use Rattle.ffc_linear.proofs.SuppositionLemmas.{is_affine_at}
use Rattle.ffc_linear.proofs.suppositions.are_affine.Goals as goal
use Rattle.ffc_linear.proofs.suppositions.are_affine.Goals.{else-is_equality-via-then-is_equality+else-not-is_affine, else-is_equality-via-else-is_equality}

pub returns-then-not-is_affine : goal.returns-then-not-is_affine
returns-then-not-is_affine c =
    let ns = c.args.table.now in
    let nodes = c.args.nodes.now in
    let i = c.loop-id.id-index in
    let x = get_or nodes i 0 in
    let of : is_equality (node_at ns x) ≡ c.is_equality.result = ap is_equality (node_at-is ns x c.node.result.now c.node.ensures.at) ∙ sym c.is_equality.ensures in
    kind_fails (λ id. is_equality (node_at ns id)) (is_affine_at ns) nodes i c.loop-id-test.true _ (of ∙ c.if-is_equality.true) (sym c.is_affine.ensures ∙ c.if-not-is_affine.true) c.loop-id.invariant

pub loop-id-preserved : goal.loop-id-preserved
loop-id-preserved c =
    let ns = c.args.table.now in
    let nodes = c.args.nodes.now in
    let i = c.loop-id.id-index in
    let x = get_or nodes i 0 in
    let kind = λ (id : ℕ). is_equality (node_at ns id) in
    let of : is_equality (node_at ns x) ≡ c.is_equality.result = ap is_equality (node_at-is ns x c.node.result.now c.node.ensures.at) ∙ sym c.is_equality.ensures in
    elim c.else-is_equality.branch [
      | else-is_equality-via-then-is_equality+else-not-is_affine w ↦
          kind_holds kind (is_affine_at ns) nodes i c.loop-id-test.true _ (sym w.is_affine.ensures ∙ w.if-not-is_affine.false) c.loop-id.invariant
      | else-is_equality-via-else-is_equality w ↦
          kind_other kind (is_affine_at ns) nodes i c.loop-id-test.true _ (of ∙ w.if-is_equality.false) c.loop-id.invariant
    ]
