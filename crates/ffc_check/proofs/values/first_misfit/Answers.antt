use Rattle.std.proofs.Common.{◌<◌, ◌≤◌, get_or, sym, ap, ◌∙◌, subst}
use Rattle.ffc_term.specs.Measuring.{value_count}
use Rattle.ffc_rules.proofs.AssignmentLemmas.{node_at-is}
use Rattle.ffc_check.proofs.MisfitLemmas as misfit
use Rattle.ffc_check.proofs.values.first_misfit.Goals as goal

pub returns-then-pair-value_count-clause-misfit : goal.returns-then-pair-value_count-clause-misfit
returns-then-pair-value_count-clause-misfit c =
    let ns = c.args.table.now in
    let ids = c.args.declared.now in
    let pairs = c.args.pairs.now in
    let i = c.loop-i.i in
    let count = c.value_count.ensures ∙ ap value_count (sym (node_at-is ns (get_or ids i 0) c.node.result.now c.node.ensures.at)) in
    misfit.fails ns ids pairs i c.loop-i-test.true c.requires.long
    (misfit.too_great ns ids pairs i c.loop-i-test.true c.requires.long c.if-pair-id.false (subst (λ n. n ≤ (get_or pairs i (0, 0)).1) count c.if-pair-value_count.true)) c.loop-i.invariant

pub loop-i-preserved : goal.loop-i-preserved
loop-i-preserved c =
    let ns = c.args.table.now in
    let ids = c.args.declared.now in
    let pairs = c.args.pairs.now in
    let i = c.loop-i.i in
    let count = c.value_count.ensures ∙ ap value_count (sym (node_at-is ns (get_or ids i 0) c.node.result.now c.node.ensures.at)) in
    misfit.passes ns ids pairs i c.loop-i-test.true c.requires.long c.if-pair-id.false (subst (λ n. (get_or pairs i (0, 0)).1 < n) count c.if-pair-value_count.false) c.loop-i.invariant
