use Rattle.std.proofs.Common.{◌<◌, sym, subst}
use Rattle.std.proofs.lemmas.Option.{slice_get_within}
use Rattle.std.proofs.lemmas.List.Elements.{All-get_or}
use Rattle.ffc_term.specs.Nodes.{IsConstantAt}
use Rattle.ffc_check.proofs.AssignLemmas.{value_count-positive, digits_step}
use Rattle.ffc_check.proofs.assigning.give_digits.Goals as goal

pub node-requires : goal.node-requires
node-requires c =
    let here = All-get_or (IsConstantAt c.args.table.now) c.args.constants.now c.loop-constant.constant-index 0 c.loop-constant-test.true c.requires in
    slice_get_within c.args.table.now _ here.0 here.1

pub nonzero_rem-left : goal.nonzero_rem-left
nonzero_rem-left c =
    subst (λ n. 0 < n) (sym c.value_count-count.ensures) (value_count-positive c.args.table.now _ c.node.result.now c.node.ensures.valid.well_formed c.node.ensures.at)

pub nonzero_div-left : goal.nonzero_div-left
nonzero_div-left c =
    subst (λ n. 0 < n) (sym c.value_count-count.ensures) (value_count-positive c.args.table.now _ c.node.result.now c.node.ensures.valid.well_formed c.node.ensures.at)

pub loop-constant-preserved : goal.loop-constant-preserved
loop-constant-preserved c =
    digits_step c.args.table.now c.args.constants.now c.loop-constant.constant-index c.value_count-count.result c.loop-constant.left c.node.result.now c.loop-constant.values c.give.new.values _
    c.loop-constant-test.true c.node.ensures.at c.value_count-count.ensures c.give.ensures c.loop-constant.invariant
