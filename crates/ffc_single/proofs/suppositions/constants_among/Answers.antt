use Rattle.std.proofs.Common.{◌≡◌, ℕ, [], ◌∷◌, ◌++◌, get_or, sym, ap, ◌∙◌}
use Rattle.std.proofs.lemmas.Option.{get_or_from_slice_get}
use Rattle.ffc_bounds.specs.Conjunctions.{is_field_constant}
use Rattle.ffc_term.specs.declared.node.Node.TheVariants.{True}
use Rattle.ffc_term.specs.Nodes.{node_at}
use Rattle.ffc_term.proofs.ListLemmas.{filter_more_true, filter_more_false}
use Rattle.ffc_single.proofs.suppositions.constants_among.Goals as goal
use Rattle.ffc_single.proofs.suppositions.constants_among.Goals.{then-is_field_constant+in_ok-push, else-is_field_constant}

pub loop-id-preserved : goal.loop-id-preserved
loop-id-preserved c =
    let nodes = c.args.nodes.now in
    let i = c.loop-id.id-index in
    let x = get_or nodes i 0 in
    let test = λ (id : ℕ). is_field_constant (node_at c.args.table.now id) in
    let same : c.is_field_constant.result ≡ test x = c.is_field_constant.ensures ∙ ap is_field_constant (sym (get_or_from_slice_get c.args.table.now x c.node.result.now True c.node.ensures.at)) in
    elim c.if-is_field_constant.branch [
      | then-is_field_constant+in_ok-push w ↦
          rw (w.constants-is, w.in_ok-push.ensures.items) (ap (λ xs. xs ++ x ∷ []) c.loop-id.invariant ∙ sym (filter_more_true test nodes i c.loop-id-test.true (sym same ∙ w.if-is_field_constant.true)))
      | else-is_field_constant w ↦
          rw w.constants-is (c.loop-id.invariant ∙ sym (filter_more_false test nodes i c.loop-id-test.true (sym same ∙ w.if-is_field_constant.false)))
    ]
