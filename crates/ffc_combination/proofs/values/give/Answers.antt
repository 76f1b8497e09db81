use Rattle.std.proofs.Common.{◌+◌, ◌<◌, length, get_or, drop, sym, ap, ◌∙◌, subst}
use Rattle.std.proofs.lemmas.List.{drop_more}
use Rattle.std.proofs.lemmas.List.Elements.{All-get_or}
use Rattle.ffc_check.specs.Assigning.{with_values}
use Rattle.ffc_rules.proofs.AssignmentLemmas.{node_at-is}
use Rattle.ffc_rules.specs.Assignments.{number_of_constant}
use Rattle.ffc_term.specs.declared.node.Node.TheVariants.{FieldConst}
use Rattle.ffc_term.specs.Nodes.{IsNodeAt}
use Rattle.ffc_trials.proofs.CountingLemmas.{constant_inside, with_value-is}
use Rattle.ffc_combination.specs.Values.{IsFieldConstant}
use Rattle.ffc_combination.proofs.ValueLemmas.{constant_at, field_constant_is, only_constant}
use Rattle.ffc_combination.proofs.values.give.Goals as goal

pub bounds-values-k : goal.bounds-values-k
bounds-values-k c =
    let ns = c.args.table.now in
    let i = c.loop-pair.pair-index in
    let pair = get_or c.args.pairs.now i (0, 0) in
    let here = constant_at ns pair.0 (All-get_or (λ q. IsFieldConstant ns q.0) c.args.pairs.now i (0, 0) c.loop-pair-test.true c.requires.constants) in
    let at : IsNodeAt ns pair.0 (FieldConst c.in-FieldConst.k c.in-FieldConst.field-1) = subst (IsNodeAt ns pair.0) c.in-FieldConst.is c.node.ensures.at in
    subst (λ n. number_of_constant n < length c.loop-pair.values) (node_at-is ns pair.0 (FieldConst c.in-FieldConst.k c.in-FieldConst.field-1) at)
    (constant_inside ns c.node.ensures.valid.well_formed c.loop-pair.values pair.0 here (c.loop-pair.auto.values ∙ c.requires.long))

pub unreachable-requires : goal.unreachable-requires
unreachable-requires c =
    let ns = c.args.table.now in
    let i = c.loop-pair.pair-index in
    let pair = get_or c.args.pairs.now i (0, 0) in
    let is = field_constant_is c.node.result.now
    (only_constant ns pair.0 c.node.result.now (All-get_or (λ q. IsFieldConstant ns q.0) c.args.pairs.now i (0, 0) c.loop-pair-test.true c.requires.constants) c.node.ensures.at) in
    c.in_default.not-FieldConst is.0 is.1 is.2

pub loop-pair-preserved : goal.loop-pair-preserved
loop-pair-preserved c =
    let ns = c.args.table.now in
    let pairs = c.args.pairs.now in
    let i = c.loop-pair.pair-index in
    let pair = get_or pairs i (0, 0) in
    let at : IsNodeAt ns pair.0 (FieldConst c.in-FieldConst.k c.in-FieldConst.field-1) = subst (IsNodeAt ns pair.0) c.in-FieldConst.is c.node.ensures.at in
    ap (λ vs. with_values ns vs (drop (i + 1) pairs)) (with_value-is ns c.loop-pair.values pair.0 pair.1 (FieldConst c.in-FieldConst.k c.in-FieldConst.field-1) at)
    ∙ sym (ap (with_values ns c.loop-pair.values) (drop_more pairs i (0, 0) c.loop-pair-test.true)) ∙ c.loop-pair.invariant
