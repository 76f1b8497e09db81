use Rattle.std.proofs.Common.{◌+◌, ◌<◌, length, get_or, drop, sym, ap, ◌∙◌, subst}
use Rattle.std.proofs.lemmas.Option.{slice_get_within}
use Rattle.std.proofs.lemmas.List.{drop_more}
use Rattle.std.proofs.lemmas.List.Elements.{All-get_or}
use Rattle.ffc_term.specs.Nodes.{IsConstantAt, is_constant}
use Rattle.ffc_rules.specs.Assignments.{number_of_constant}
use Rattle.ffc_rules.proofs.AssignmentLemmas.{node_at-is}
use Rattle.ffc_check.specs.Assigning.{with_values}
use Rattle.ffc_trials.proofs.CountingLemmas.{constant_inside, constant_node, with_value-is}
use Rattle.ffc_trials.proofs.known.give_known.Goals as goal

pub node-requires : goal.node-requires
node-requires c =
    let here = All-get_or (λ p. IsConstantAt c.args.table.now p.0) c.args.known.now c.loop-pair.pair-index (0, 0) c.loop-pair-test.true c.requires.constants in
    slice_get_within c.args.table.now _ here.0 here.1

pub give-requires-clause-constant : goal.give-requires-clause-constant
give-requires-clause-constant c =
    let ns = c.args.table.now in
    let pair = get_or c.args.known.now c.loop-pair.pair-index (0, 0) in
    let here = All-get_or (λ p. IsConstantAt ns p.0) c.args.known.now c.loop-pair.pair-index (0, 0) c.loop-pair-test.true c.requires.constants in
    ap is_constant (sym (node_at-is ns pair.0 c.node.result.now c.node.ensures.at)) ∙ constant_node ns pair.0 here

pub give-requires-clause-inside : goal.give-requires-clause-inside
give-requires-clause-inside c =
    let ns = c.args.table.now in
    let pair = get_or c.args.known.now c.loop-pair.pair-index (0, 0) in
    let here = All-get_or (λ p. IsConstantAt ns p.0) c.args.known.now c.loop-pair.pair-index (0, 0) c.loop-pair-test.true c.requires.constants in
    subst (λ n. number_of_constant n < length c.loop-pair.values) (node_at-is ns pair.0 c.node.result.now c.node.ensures.at)
    (constant_inside ns c.node.ensures.valid.well_formed c.loop-pair.values pair.0 here (c.loop-pair.auto.values ∙ c.requires.long))

pub loop-pair-preserved : goal.loop-pair-preserved
loop-pair-preserved c =
    let ns = c.args.table.now in
    let known = c.args.known.now in
    let i = c.loop-pair.pair-index in
    let pair = get_or known i (0, 0) in
    ap (λ vs. with_values ns vs (drop (i + 1) known)) (c.give.ensures ∙ with_value-is ns c.loop-pair.values pair.0 pair.1 c.node.result.now c.node.ensures.at)
    ∙ sym (ap (with_values ns c.loop-pair.values) (drop_more known i (0, 0) c.loop-pair-test.true)) ∙ c.loop-pair.invariant
