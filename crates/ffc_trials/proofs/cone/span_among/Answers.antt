use Rattle.std.proofs.Common.{◌≡◌, ℕ, ◌*◌, get_or, sym, ap, ◌∙◌}
use Rattle.std.proofs.lemmas.Option.{get_or_from_slice_get}
use Rattle.std.proofs.lemmas.List.Sums.{fold_more}
use Rattle.ffc_term.specs.declared.node.Node.TheVariants.{True}
use Rattle.ffc_term.specs.Nodes.{node_at}
use Rattle.ffc_term.specs.Measuring.{value_count}
use Rattle.ffc_term.proofs.ListLemmas.{min_step}
use Rattle.ffc_trials.proofs.cone.span_among.Goals as goal

pub loop-id-preserved : goal.loop-id-preserved
loop-id-preserved c =
    let constants = c.args.constants.now in
    let i = c.loop-id.id-index in
    let x = get_or constants i 0 in
    let f = λ (id : ℕ). value_count (node_at c.args.table.now id) in
    let same : c.from.result ≡ f x = c.from.ensures ∙ c.value_count.ensures ∙ ap value_count (sym (get_or_from_slice_get c.args.table.now x c.node.result.now True c.node.ensures.at)) in
    min_step _ _ _ _ _ _ _ c.min-span.ensures c.loop-id.invariant same (fold_more (λ a y. a * f y) 1 constants i 0 c.loop-id-test.true)
