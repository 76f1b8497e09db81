use Rattle.std.proofs.Common.{ℕ, length, All, sym, ap, ◌∙◌, subst}
use Rattle.ffc_term.specs.Nodes.{IsConstantAt}
use Rattle.ffc_term.specs.declared.value.Value.{Value}
use Rattle.ffc_rules.specs.Cones.{cone_constants}
use Rattle.ffc_check.specs.Assigning.{with_values}
use Rattle.ffc_check.specs.Judged.{judged_check}
use Rattle.ffc_check.proofs.AnswerLemmas.{written_back}
use Rattle.ffc_trials.specs.Enumerating.{with_zeros}
use Rattle.ffc_trials.proofs.EnumerateLemmas.{first_reached, zeros_constant}
use Rattle.ffc_trials.proofs.enumerate.Enumeration.new.Goals as goal

pub give_known-requires-clause-constants : goal.give_known-requires-clause-constants
give_known-requires-clause-constants c =
    let check = judged_check c.args.check.now in
    let zeros = c.as_slice-2.ensures.value ∙ c.in_ok-zeros.ensures ∙ ap with_zeros (c.as_slice.ensures.value ∙ c.requires.cone.constants) in
    subst (All (λ p. IsConstantAt check.nodes p.0)) (sym zeros) (zeros_constant check c.requires.valid)

pub returns : goal.returns
returns c =
    let check = judged_check c.args.check.now in
    let ns = check.nodes in
    let zeros = c.as_slice-2.ensures.value ∙ c.in_ok-zeros.ensures ∙ ap with_zeros (c.as_slice.ensures.value ∙ c.requires.cone.constants) in
    let begun = c.resize.new.self in
    let back = written_back c.give_known.new.values begun.items begun.len (c.give_known.auto.values ∙ ap length c.as_mut_slice.ensures.value) begun.ok.0 in
    let given = back ∙ c.give_known.ensures ∙ ap (λ vs. with_values ns vs c.as_slice-2.result.now) c.as_mut_slice.ensures.value ∙ ap (with_values ns begun.items) zeros in
    first_reached check c.requires.valid _ begun.items (sym begun.ok.0 ∙ c.in_ok-resize.ensures.len ∙ c.len-count.ensures.count) given
    (sym c.resize-2.new.self.ok.0 ∙ c.in_ok-resize-2.ensures.len ∙ c.len-count.ensures.count) c.in_ok-with_zeros.ensures
