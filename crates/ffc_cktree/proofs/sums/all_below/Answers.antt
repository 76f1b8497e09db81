use Rattle.std.proofs.Common.{nat_lt, sym, ap, ◌∙◌}
use Rattle.std.specs.List.{list_all}
use Rattle.ffc_trees.specs.TreeLines.{Multiple}
use Rattle.ffc_cktree.proofs.SumLemmas.{fails_here, holds_here}
use Rattle.ffc_cktree.proofs.sums.all_below.Goals as goal

pub returns-then-not-are_below : goal.returns-then-not-are_below
returns-then-not-are_below c =
    fails_here (λ (m : Multiple). list_all (λ t. nat_lt t.0 c.args.order) m.1) c.args.multiples.now c.loop-multiple.multiple-index c.multiple-item.result c.loop-multiple-test.true c.multiple-item.is _
    (ap (list_all (λ t. nat_lt t.0 c.args.order)) (sym c.as_slice.ensures) ∙ sym c.if-not-are_below.ensures) c.loop-multiple.invariant

pub loop-multiple-preserved : goal.loop-multiple-preserved
loop-multiple-preserved c =
    holds_here (λ (m : Multiple). list_all (λ t. nat_lt t.0 c.args.order) m.1) c.args.multiples.now c.loop-multiple.multiple-index c.multiple-item.result c.loop-multiple-test.true c.multiple-item.is _
    (ap (list_all (λ t. nat_lt t.0 c.args.order)) (sym c.as_slice.ensures) ∙ sym c.if-not-are_below.ensures) c.loop-multiple.invariant
