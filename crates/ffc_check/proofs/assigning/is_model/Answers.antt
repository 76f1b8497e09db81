use Rattle.std.proofs.Common.{◌∙◌}
use Rattle.ffc_term.specs.Values.{truth_in, values}
use Rattle.ffc_term.proofs.RootLemmas.{roots_among, same_tests}
use Rattle.ffc_check.proofs.assigning.is_model.Goals as goal

pub are_true-requires-clause-among : goal.are_true-requires-clause-among
are_true-requires-clause-among c =
    let check = c.args.check.now in
    roots_among check.table.now check.in_force.now c.args.nodes.now c.args.asserted.now c.requires.nodes c.requires.asserted

pub returns : goal.returns
returns c =
    let check = c.args.check.now in
    let known = values check.table.now c.args.assignment.now in
    c.are_true.ensures ∙ same_tests (truth_in known) c.args.asserted.now check.in_force.now c.requires.asserted
