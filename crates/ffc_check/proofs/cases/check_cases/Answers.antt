use Rattle.std.proofs.Common.{Some, None, cond, ap, ◌∙◌}
use Rattle.ffc_rules.specs.Entries.{breaks}
use Rattle.ffc_check.specs.Judged.{judged_check}
use Rattle.ffc_check.proofs.AnswerLemmas.{names_broken}
use Rattle.ffc_check.proofs.CaseLemmas.{passed_named, searched_named}
use Rattle.ffc_check.proofs.cases.check_cases.Goals as goal

pub returns-then-measures-gt-MOST_WORK : goal.returns-then-measures-gt-MOST_WORK
returns-then-measures-gt-MOST_WORK c =
    names_broken c.breaks.result 11 c.args.line _ c.breaks.ensures
    (passed_named (judged_check c.args.check.now) c.requires.valid c.in_ok-measures.measures.span c.in_ok-measures.measures.work c.args.line c.in_ok-measures.ensures c.if-measures-gt-MOST_WORK.true)

pub returns-then-branch : goal.returns-then-branch
returns-then-branch c =
    names_broken c.breaks-then-branch.result 10 c.args.line _ c.breaks-then-branch.ensures
    (searched_named (judged_check c.args.check.now) c.requires.valid c.in_ok-measures.measures.span c.in_ok-measures.measures.work c.args.line c.in_ok-measures.ensures c.in_ok-has_model.field-0
    c.if-measures-gt-MOST_WORK.false c.in_ok-has_model.ensures ∙ ap (λ found. cond found (Some (breaks 10 c.args.line)) None) c.if-branch.true)

pub returns-else-branch : goal.returns-else-branch
returns-else-branch c =
    searched_named (judged_check c.args.check.now) c.requires.valid c.in_ok-measures.measures.span c.in_ok-measures.measures.work c.args.line c.in_ok-measures.ensures c.in_ok-has_model.field-0
    c.if-measures-gt-MOST_WORK.false c.in_ok-has_model.ensures ∙ ap (λ found. cond found (Some (breaks 10 c.args.line)) None) c.if-branch.false
