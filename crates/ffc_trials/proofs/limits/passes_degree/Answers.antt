use Rattle.std.proofs.Common.{◌≡◌, ℕ, nat_lt, get_or, sym, ap, ◌∙◌, arith}
use Rattle.std.proofs.lemmas.Bool.{lt-ltb, le-ltb}
use Rattle.ffc_term.specs.Nodes.{node_at}
use Rattle.ffc_term.specs.Measuring.{degree_at}
use Rattle.ffc_rules.specs.Cones.{is_equality}
use Rattle.ffc_rules.proofs.AssignmentLemmas.{node_at-is}
use Rattle.ffc_trials.proofs.LimitLemmas.{found, other_kind, not_passed}
use Rattle.ffc_trials.proofs.limits.passes_degree.Goals as goal
use Rattle.ffc_trials.proofs.limits.passes_degree.Goals.{else-is_equality-via-then-is_equality+else-degree-gt-MOST_DEGREE, else-is_equality-via-else-is_equality}

pub returns-then-degree-gt-MOST_DEGREE : goal.returns-then-degree-gt-MOST_DEGREE
returns-then-degree-gt-MOST_DEGREE c =
    let ns = c.args.table.now in
    let x = get_or c.args.nodes.now c.loop-id.id-index 0 in
    let of : is_equality (node_at ns x) ≡ c.is_equality.result = ap is_equality (node_at-is ns x c.node.result.now c.node.ensures.at) ∙ sym c.is_equality.ensures in
    let is = c.degree.ensures in
    let over = c.if-degree-gt-MOST_DEGREE.true in
    found (λ id. is_equality (node_at ns id)) (λ id. nat_lt 255 (degree_at ns id)) c.args.nodes.now c.loop-id.id-index c.loop-id-test.true _
    (of ∙ c.if-is_equality.true) (lt-ltb 255 (degree_at ns x) (omega arith)) c.loop-id.invariant

pub loop-id-preserved : goal.loop-id-preserved
loop-id-preserved c =
    let ns = c.args.table.now in
    let x = get_or c.args.nodes.now c.loop-id.id-index 0 in
    let of : is_equality (node_at ns x) ≡ c.is_equality.result = ap is_equality (node_at-is ns x c.node.result.now c.node.ensures.at) ∙ sym c.is_equality.ensures in
    let kind = λ (id : ℕ). is_equality (node_at ns id) in
    let test = λ (id : ℕ). nat_lt 255 (degree_at ns id) in
    elim c.else-is_equality.branch [
      | else-is_equality-via-then-is_equality+else-degree-gt-MOST_DEGREE w ↦
          let is = w.degree.ensures in
          let under = w.if-degree-gt-MOST_DEGREE.false in
          not_passed kind test c.args.nodes.now c.loop-id.id-index c.loop-id-test.true _ (le-ltb 255 (degree_at ns x) (omega arith)) c.loop-id.invariant
      | else-is_equality-via-else-is_equality w ↦
          other_kind kind test c.args.nodes.now c.loop-id.id-index c.loop-id-test.true _ (of ∙ w.if-is_equality.false) c.loop-id.invariant
    ]
