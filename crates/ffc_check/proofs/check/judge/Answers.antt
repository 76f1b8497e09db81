use Rattle.std.proofs.Common.{◌+◌, ◌≤◌, [], length, sym, ap, ◌∙◌, subst}
use Rattle.std.specs.List.{AllByRecursion}
use Rattle.ffc_cert.specs.declared.TheConstants.{MAX_BYTES}
use Rattle.ffc_cert.specs.Spelling.{entry_text}
use Rattle.ffc_rules.specs.Entries.{limits, entry_fault_within, sat_fault, lines_fault}
use Rattle.ffc_check.specs.Answers.{Answers}
use Rattle.ffc_check.specs.Judged.{judged_check}
use Rattle.ffc_check.specs.Lengths.{FewLiterals}
use Rattle.ffc_check.proofs.LengthLemmas.{few_literals}
use Rattle.ffc_check.proofs.check.judge.Goals as goal

pub check_lines-requires-clause-short : goal.check_lines-requires-clause-short
check_lines-requires-clause-short c =
    subst (AllByRecursion FewLiterals) (sym c.as_slice-in-UnsatSteps.ensures)
    (few_literals c.in-UnsatSteps.lines (subst (λ e. length (entry_text e) ≤ MAX_BYTES) c.in-UnsatSteps.is c.requires.readable.1.short))

pub returns-in-Sat : goal.returns-in-Sat
unfolding entry_fault_within
returns-in-Sat c =
    subst (Answers c.check_values.result)
    (ap (λ pairs. sat_fault (judged_check c.args.check.now) pairs c.args.first_line) c.as_slice.ensures ∙ sym (ap (λ e. entry_fault_within limits (judged_check c.args.check.now) e c.args.first_line) c.in-Sat.is))
    c.check_values.ensures

pub returns-in-UnsatCases : goal.returns-in-UnsatCases
unfolding entry_fault_within
returns-in-UnsatCases c =
    subst (Answers c.check_cases.result) (sym (ap (λ e. entry_fault_within limits (judged_check c.args.check.now) e c.args.first_line) c.in-UnsatCases.is)) c.check_cases.ensures

pub returns-in-UnsatSteps : goal.returns-in-UnsatSteps
unfolding entry_fault_within
returns-in-UnsatSteps c =
    subst (Answers c.check_lines.result)
    (ap (λ lines. lines_fault limits (judged_check c.args.check.now) [] (c.args.first_line + 1) 0 lines) c.as_slice-in-UnsatSteps.ensures
    ∙ sym (ap (λ e. entry_fault_within limits (judged_check c.args.check.now) e c.args.first_line) c.in-UnsatSteps.is))
    c.check_lines.ensures

pub returns-in-Unknown : goal.returns-in-Unknown
unfolding entry_fault_within
returns-in-Unknown c = ap (λ e. entry_fault_within limits (judged_check c.args.check.now) e c.args.first_line) c.in-Unknown.is
