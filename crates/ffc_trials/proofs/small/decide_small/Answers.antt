use Rattle.std.proofs.Common.{◌≡◌, sym, ap, ◌∙◌, refl, arith}
use Rattle.ffc_base.specs.Metering.{total}
use Rattle.ffc_rules.specs.Assignments.{has_model_below}
use Rattle.ffc_check.specs.Judged.{judged_check}
use Rattle.ffc_trials.proofs.LimitLemmas.{cases_right, cases_readable}
use Rattle.ffc_trials.proofs.small.decide_small.Goals as goal

pub returns-clause-given : goal.returns-clause-given
returns-clause-given c =
    let check = judged_check c.args.check.now in
    let begun = ap total c.new-trials.ensures in
    let after = c.if-go_on.ensures.spent refl in
    let all : total c.go_on.new.meter ≡ c.args.span = omega arith in
    record {
      readable = cases_readable;
      right = cases_right check c.requires.valid c.requires.small.work
          (ap (has_model_below check.nodes check.in_force) (sym (all ∙ c.requires.small.all)) ∙ (c.if-go_on.ensures.none refl).none);
      verdict = tt;
    }
