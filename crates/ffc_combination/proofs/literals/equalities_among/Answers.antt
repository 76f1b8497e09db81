use Rattle.std.proofs.Common.{◌≡◌, ◌<◌, false, [], ◌∷◌, ◌++◌, length, get_or, sym, ap, ◌∙◌, arith}
use Rattle.std.proofs.lemmas.Bool.{and_from, and_left, and_right}
use Rattle.std.proofs.lemmas.List.{get_or_read}
use Rattle.std.proofs.lemmas.Option.{get_or_from_slice_get}
use Rattle.ffc_clause.specs.Clauses.{is_among}
use Rattle.ffc_rules.specs.Cones.{is_equality}
use Rattle.ffc_term.specs.declared.node.Node.TheVariants.{True}
use Rattle.ffc_term.specs.Nodes.{node_at}
use Rattle.ffc_term.proofs.ListLemmas.{filter_more_true, filter_more_false}
use Rattle.ffc_combination.specs.Forced.{is_forced_equality}
use Rattle.ffc_combination.proofs.literals.equalities_among.Goals as goal
use Rattle.ffc_combination.proofs.literals.equalities_among.Goals.{
  then-is_equality+then-index+in_ok-push,
  else-is_equality,
  else-is_equality-via-then-is_equality+else-index,
  else-is_equality-via-else-is_equality,
}

pub loop-id-preserved : goal.loop-id-preserved
loop-id-preserved c =
    let ns = c.args.table.now in
    let nodes = c.args.nodes.now in
    let i = c.loop-id.id-index in
    let x = get_or nodes i 0 in
    let marks = c.in_ok-marks.marks.items in
    let truth = c.args.truth in
    let literals = c.args.literals.now in
    let test = is_forced_equality ns literals truth in
    let below : x < length ns = c.requires i 0 c.loop-id-test.true in
    let among : get_or marks x false ≡ is_among literals (truth, x) = c.in_ok-marks.ensures.marks x (omega (arith, below, c.len.ensures.count)) in
    let same : c.is_equality.result ≡ is_equality (node_at ns x) = c.is_equality.ensures ∙ ap is_equality (sym (get_or_from_slice_get ns x c.node.result.now True c.node.ensures.at)) in
    let inside : x < length marks = omega (arith, below, c.len.ensures.count, c.in_ok-marks.ensures.long) in
    elim c.if-is_equality.branch [
      | then-is_equality+then-index+in_ok-push w ↦
          rw (w.found-is, w.in_ok-push.ensures.items)
          (let marked = get_or_read marks x w.index.result.now inside w.index.ensures false in
          ap (λ xs. xs ++ x ∷ []) c.loop-id.invariant
          ∙ sym (filter_more_true test nodes i c.loop-id-test.true
          (and_from (is_equality (node_at ns x)) (is_among literals (truth, x)) (sym same ∙ w.if-is_equality.true) (sym among ∙ sym marked ∙ w.if-index.true))))
      | else-is_equality w ↦
          rw w.found-is (c.loop-id.invariant ∙ sym (filter_more_false test nodes i c.loop-id-test.true
          (elim w.else-is_equality.branch [
            | else-is_equality-via-then-is_equality+else-index v ↦
                let marked = get_or_read marks x v.index.result.now inside v.index.ensures false in
                and_right (is_equality (node_at ns x)) (is_among literals (truth, x)) (sym among ∙ sym marked ∙ v.if-index.false)
            | else-is_equality-via-else-is_equality v ↦ and_left (is_equality (node_at ns x)) (is_among literals (truth, x)) (sym same ∙ v.if-is_equality.false)
          ])))
    ]
