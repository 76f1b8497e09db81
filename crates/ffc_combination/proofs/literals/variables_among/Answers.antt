use Rattle.std.proofs.Common.{◌≡◌, ℕ, [], ◌∷◌, ◌++◌, get_or, sym, ap, ◌∙◌}
use Rattle.std.proofs.lemmas.Option.{get_or_from_slice_get}
use Rattle.ffc_term.specs.declared.node.Node.TheVariants.{True}
use Rattle.ffc_term.specs.Nodes.{node_at}
use Rattle.ffc_term.proofs.ListLemmas.{filter_more_true, filter_more_false}
use Rattle.ffc_trees.specs.NodePolynomials.{is_variable}
use Rattle.ffc_combination.proofs.literals.variables_among.Goals as goal
use Rattle.ffc_combination.proofs.literals.variables_among.Goals.{then-is_variable+in_ok-push, else-is_variable}

pub loop-id-preserved : goal.loop-id-preserved
loop-id-preserved c =
    let nodes = c.args.nodes.now in
    let i = c.loop-id.id-index in
    let x = get_or nodes i 0 in
    let test = λ (id : ℕ). is_variable (node_at c.args.table.now id) in
    let same : c.is_variable.result ≡ test x = c.is_variable.ensures ∙ ap is_variable (sym (get_or_from_slice_get c.args.table.now x c.node.result.now True c.node.ensures.at)) in
    elim c.if-is_variable.branch [
      | then-is_variable+in_ok-push w ↦
          rw (w.found-is, w.in_ok-push.ensures.items) (ap (λ xs. xs ++ x ∷ []) c.loop-id.invariant ∙ sym (filter_more_true test nodes i c.loop-id-test.true (sym same ∙ w.if-is_variable.true)))
      | else-is_variable w ↦
          rw w.found-is (c.loop-id.invariant ∙ sym (filter_more_false test nodes i c.loop-id-test.true (sym same ∙ w.if-is_variable.false)))
    ]
