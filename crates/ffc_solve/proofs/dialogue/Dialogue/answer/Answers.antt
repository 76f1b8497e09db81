use Rattle.std.proofs.Common.{Some, None, ap, ◌∙◌, subst, refl, arith}
use Rattle.ffc_smt.specs.Scopes.{State}
use Rattle.ffc_smt.specs.Scripts.{Step, after}
use Rattle.ffc_elab.specs.Answers.{IsAnswered}
use Rattle.ffc_script.specs.Answers.{check_by, ends}
use Rattle.ffc_script.specs.Progress.{known_at}
use Rattle.ffc_solve.proofs.AdvanceLemmas.{answered_is, exit_told, plain_err, plain_from, plain_ok}
use Rattle.ffc_solve.proofs.CheckLemmas.{asked_texts, cut_check, no_texts, room_for, told_then}
use Rattle.ffc_solve.proofs.ListLemmas.{not_by_cert, not_by_read, on_err}
use Rattle.ffc_solve.proofs.dialogue.Dialogue.answer.Goals as goal

-- the state after a command
abbrev then : Step → State
then x = after x.before x.tree x.command

pub check-requires-clause-room : goal.check-requires-clause-room
check-requires-clause-room g c =
    let (p, entries, l, holds, gives) = c.requires.given in
    room_for p c.args.self.now entries l c.args.command holds gives c.steps_are_few.ensures c.requires.short

pub returns-in_err-check-in-Check-clause-err : goal.returns-in_err-check-in-Check-clause-err
returns-in_err-check-in-Check-clause-err g c =
    on_err c.from_residual.result _ (λ p entries l more holds gives.
    let s = c.args.self.now in
    let (entry, right, half) = c.in_err-check-in-Check.ensures.err in
    cut_check p s entries l c.args.command holds gives c.steps_come_first.ensures (gives.check ∙ ap (λ d. check_by d (known_at s.reader)) c.in-Check.is) entry right more _ _ half)

pub check-requires-in-CheckAssuming-clause-room : goal.check-requires-in-CheckAssuming-clause-room
check-requires-in-CheckAssuming-clause-room g c =
    let (p, entries, l, holds, gives) = c.requires.given in
    room_for p c.args.self.now entries l c.args.command holds gives c.steps_are_few.ensures c.requires.short

pub returns-in_err-check-in-CheckAssuming-clause-err : goal.returns-in_err-check-in-CheckAssuming-clause-err
returns-in_err-check-in-CheckAssuming-clause-err g c =
    on_err c.from_residual-in_err-check-in-CheckAssuming.result _ (λ p entries l more holds gives.
    let s = c.args.self.now in
    let (entry, right, half) = c.in_err-check-in-CheckAssuming.ensures.err in
    cut_check p s entries l c.args.command holds gives c.steps_come_first.ensures (gives.check ∙ ap (λ d. check_by d (known_at s.reader)) c.in-CheckAssuming.is) entry right more _ _ half)

pub returns-in_ok-check-in-Check-clause-ok : goal.returns-in_ok-check-in-Check-clause-ok
returns-in_ok-check-in-Check-clause-ok g c = λ p entries l holds gives.
    let s = c.args.self.now in
    let (entry, right, is, cert, out) = c.in_ok-check-in-Check.ensures.ok in
    let first = c.steps_come_first.ensures in
    let answered = answered_is p s entries l c.args.command holds gives first in (
      told_then p s entries l c.args.command holds gives first (gives.check ∙ ap (λ d. check_by d (known_at s.reader)) c.in-Check.is) entry right c.check.new.self None _ _ (omega (arith, c.requires.budget.few)) is
          (no_texts (then gives.step) gives.step.command (subst (IsAnswered (then gives.step) gives.step.command) c.in-Check.is answered)) cert out,
      ap (λ r. r.over) is.reader ∙ gives.over ∙ ap ends c.in-Check.is,
    )

pub returns-in_ok-check-in-CheckAssuming-clause-ok : goal.returns-in_ok-check-in-CheckAssuming-clause-ok
returns-in_ok-check-in-CheckAssuming-clause-ok g c = λ p entries l holds gives.
    let s = c.args.self.now in
    let (entry, right, is, cert, out) = c.in_ok-check-in-CheckAssuming.ensures.ok in
    let first = c.steps_come_first.ensures in
    let answered = answered_is p s entries l c.args.command holds gives first in (
      told_then p s entries l c.args.command holds gives first (gives.check ∙ ap (λ d. check_by d (known_at s.reader)) c.in-CheckAssuming.is) entry right c.check-in-CheckAssuming.new.self (Some c.in-CheckAssuming.asked) _ _ (omega (arith, c.requires.budget.few)) is
          (asked_texts (then gives.step) gives.step.command c.in-CheckAssuming.asked (subst (IsAnswered (then gives.step) gives.step.command) c.in-CheckAssuming.is answered)) cert out,
      ap (λ r. r.over) is.reader ∙ gives.over ∙ ap ends c.in-CheckAssuming.is,
    )

pub returns-in-Exit-clause-ok : goal.returns-in-Exit-clause-ok
returns-in-Exit-clause-ok g c = λ p entries l holds gives. exit_told p c.args.self.now entries l c.args.command _ _ holds gives c.steps_come_first.ensures c.in-Exit.is

pub returns-in_default : goal.returns-in_default
returns-in_default g c =
    let plain = plain_from c.args.command c.in_default.not-Check c.in_default.not-CheckAssuming c.in_default.not-Exit in
    record {
      ok = plain_ok c.reply.result c.args.self.now c.reply.new.self c.args.command _ _ c.steps_come_first.ensures c.reply.ensures.dialogue plain c.reply.ensures.ok c.reply.ensures.answered;
      err = plain_err c.reply.result c.args.self.now c.args.command _ _ c.steps_come_first.ensures plain c.reply.ensures.err;
      same_name = refl;
      later_out = c.reply.ensures.later_out;
      later_cert = omega arith;
      cause_out = c.reply.ensures.cause_out;
      cause_cert = λ h. absurd (not_by_cert c.reply.result c.reply.ensures.only h);
      only = not_by_read c.reply.result c.reply.ensures.only;
    }
