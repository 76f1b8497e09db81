use Rattle.std.proofs.Common.{refl, arith, Some, None, Option}
use Rattle.std.specs.Option.{IfSome, IfNone}
use Rattle.ffc_elab.specs.Histories.{check_now}
use Rattle.ffc_script.specs.Progress.{known_at}
use Rattle.ffc_check.specs.Judged.{judged_check}
use Rattle.ffc_verify.specs.declared.judge.Beside.{Beside}
use Rattle.ffc_verify.specs.declared.verdicts.Refusal.{Refusal}
use Rattle.ffc_verify.specs.declared.verdicts.Verdict.TheVariants as verdict
use Rattle.ffc_verify.specs.Judged.{EndsAsVerdict, IsVerdict, IsTakenUp, IsRefusedFor}
use Rattle.ffc_verify.specs.Reading.{MovesOn}
use Rattle.ffc_verify.proofs.JudgeLemmas.{IsShown, shown_is, underway_first, underway_more}
use Rattle.ffc_verify.proofs.EnoughLemmas.{check_read, end_read, nothing_read}
use Rattle.ffc_verify.proofs.VerdictLemmas.{is_awaited, is_small, is_smaller, check_refused, end_verdict, if_told, ended_ok}
use Rattle.ffc_verify.proofs.judge.judge.Goals as goal

abbrev the_none : Option Refusal
the_none = None

pub checks-init : goal.checks-init
checks-init g c = (
  underway_first c.args.script.now c.args.checks c.args.bits c.args.cores (g.C.Source.left c.args.cert.now) c.in-Ok.reader c.new-entries.result (record { sat = 0; unsat = 0; unknown = 0; cores = c.new.result })
      c.in-Ok.ensures.fed c.new-entries.ensures refl refl c.new.ensures.items,
  omega arith,
  nothing_read c.args.bits c.args.script.now (g.C.Source.left c.args.cert.now),
)

pub returns-in-Ok-false-clause-ok : goal.returns-in-Ok-false-clause-ok
returns-in-Ok-false-clause-ok g c =
    let left = g.C.Source.left c.args.cert.now in
    let now = g.C.Source.left c.checks.cert in
    let p = c.checks.reader in
    let h = c.checks.invariant.0 in
    let through = c.in-Ok-false.ensures.none c.in-Ok-false.field-0-test in
    let d = c.judge_end.new.entries in
    ended_ok c.judge_end.result (EndsAsVerdict c.checks.entries d now c.checks.tally) (λ v. IfSome left (λ W. IsVerdict c.args.bits c.args.cores c.args.script.now W v))
    (MovesOn c.checks.entries.text now d.text (g.C.Source.left c.judge_end.new.cert)) c.judge_end.ensures.ok c.judge_end.ensures.moves
    (λ v ends moves. if_told left (λ W. IsVerdict c.args.bits c.args.cores c.args.script.now W v)
    (λ W stated. end_verdict c.args.script.now c.args.checks c.args.bits c.args.cores left c.requires.counted p c.checks.entries now c.checks.tally h d c.judge_end.ensures.grows W stated through (g.C.Source.left c.judge_end.new.cert) moves v ends))

pub judge_next-requires-clause-few : goal.judge_next-requires-clause-few
judge_next-requires-clause-few g c =
    let given = c.in-Ok-true.ensures.check c.in-Ok-true.field-0-test in
    is_small c.args.script.now c.args.checks c.args.bits c.args.cores (g.C.Source.left c.args.cert.now) c.requires.counted c.checks.reader c.checks.entries (g.C.Source.left c.checks.cert) c.checks.tally c.checks.invariant.0
    c.more_checks.new.reader given c.steps_come_first.ensures

pub judge_next-requires-clause-awaited : goal.judge_next-requires-clause-awaited
judge_next-requires-clause-awaited g c =
    let given = c.in-Ok-true.ensures.check c.in-Ok-true.field-0-test in
    is_awaited c.args.script.now c.args.checks c.args.bits c.args.cores (g.C.Source.left c.args.cert.now) c.requires.counted c.checks.reader c.checks.entries (g.C.Source.left c.checks.cert) c.checks.tally c.checks.invariant.0
    c.more_checks.new.reader given c.steps_come_first.ensures

pub checks-smaller : goal.checks-smaller
checks-smaller g c =
    let given = c.in-Ok-true.ensures.check c.in-Ok-true.field-0-test in
    is_smaller c.args.script.now c.args.checks c.args.bits c.args.cores (g.C.Source.left c.args.cert.now) c.requires.counted c.checks.reader c.checks.entries (g.C.Source.left c.checks.cert) c.checks.tally c.checks.invariant.0
    c.more_checks.new.reader given c.steps_come_first.ensures c.requires.short c.steps_are_few.ensures

pub checks-preserved : goal.checks-preserved
checks-preserved g c =
    let given = c.in-Ok-true.ensures.check c.in-Ok-true.field-0-test in
    let q = c.more_checks.new.reader in
    let b : Beside = record { check = c.check.result; names = c.names.result; cores = c.args.cores } in
    let shown : IsShown b c.args.cores (check_now (known_at q)) =
    shown_is b q c.context.result.now c.check.ensures.table c.check.ensures.declared c.check.ensures.in_force c.check.ensures.first_order c.context.ensures c.names.ensures in
    let taken : IfNone (the_none) (IsTakenUp b c.checks.entries c.judge_next.new.entries c.checks.tally c.judge_next.new.tally) = rw c.in-Ok-None.field-0-is at c.in-Ok-None.ensures.none in (
      underway_more c.args.script.now c.args.checks c.args.bits c.args.cores (g.C.Source.left c.args.cert.now) c.checks.reader c.checks.entries (g.C.Source.left c.checks.cert) c.checks.tally c.checks.invariant.0
          q given c.judge_next.new.entries c.judge_next.ensures.grows (g.C.Source.left c.judge_next.new.cert) c.in-Ok-None.ensures.moves b shown c.judge_next.new.tally taken,
      omega (arith, c.checks.invariant.1, c.judge_next.ensures.later),
      check_read c.args.script.now c.args.checks c.args.bits c.args.cores (g.C.Source.left c.args.cert.now) c.requires.counted c.checks.reader c.checks.entries (g.C.Source.left c.checks.cert) c.checks.tally c.checks.invariant.0
          q given c.steps_come_first.ensures (g.C.Source.left c.judge_next.new.cert) c.checks.invariant.2 c.judge_next.ensures.taken,
    )

pub returns-in-Ok-Some-clause-ok : goal.returns-in-Ok-Some-clause-ok
returns-in-Ok-Some-clause-ok g c =
    let given = c.in-Ok-true.ensures.check c.in-Ok-true.field-0-test in
    let q = c.more_checks.new.reader in
    let left = g.C.Source.left c.args.cert.now in
    let now = g.C.Source.left c.checks.cert in
    let later = g.C.Source.left c.judge_next.new.cert in
    let d = c.judge_next.new.entries in
    let refusal = c.in-Ok-Some.refusal in
    let b : Beside = record { check = c.check.result; names = c.names.result; cores = c.args.cores } in
    let shown : IsShown b c.args.cores (check_now (known_at q)) =
    shown_is b q c.context.result.now c.check.ensures.table c.check.ensures.declared c.check.ensures.in_force c.check.ensures.first_order c.context.ensures c.names.ensures in
    let refused : IfSome (Some refusal) (IsRefusedFor (judged_check c.check.result) c.checks.entries d now) = rw c.in-Ok-Some.field-0-is at c.in-Ok-Some.ensures.some in
    if_told left (λ W. IsVerdict c.args.bits c.args.cores c.args.script.now W (verdict.Refused refusal))
    (λ W stated. check_refused c.args.script.now c.args.checks c.args.bits c.args.cores left c.requires.counted c.checks.reader c.checks.entries now c.checks.tally c.checks.invariant.0
    q given c.steps_come_first.ensures b shown d c.judge_next.ensures.grows W stated later c.in-Ok-Some.ensures.moves refusal refused)

pub returns-in-Ok-false-clause-read : goal.returns-in-Ok-false-clause-read
returns-in-Ok-false-clause-read g c =
    end_read c.args.script.now c.args.checks c.args.bits c.args.cores (g.C.Source.left c.args.cert.now) c.requires.counted c.checks.reader c.checks.entries (g.C.Source.left c.checks.cert) c.checks.tally c.checks.invariant.0
    (c.in-Ok-false.ensures.none c.in-Ok-false.field-0-test) (g.C.Source.left c.judge_end.new.cert) c.checks.invariant.2 c.judge_end.ensures.taken

pub returns-in-Ok-Some-clause-read : goal.returns-in-Ok-Some-clause-read
returns-in-Ok-Some-clause-read g c =
    check_read c.args.script.now c.args.checks c.args.bits c.args.cores (g.C.Source.left c.args.cert.now) c.requires.counted c.checks.reader c.checks.entries (g.C.Source.left c.checks.cert) c.checks.tally c.checks.invariant.0
    c.more_checks.new.reader (c.in-Ok-true.ensures.check c.in-Ok-true.field-0-test) c.steps_come_first.ensures (g.C.Source.left c.judge_next.new.cert) c.checks.invariant.2 c.judge_next.ensures.taken

pub returns-in-Err-judge_next-clause-read : goal.returns-in-Err-judge_next-clause-read
returns-in-Err-judge_next-clause-read g c =
    check_read c.args.script.now c.args.checks c.args.bits c.args.cores (g.C.Source.left c.args.cert.now) c.requires.counted c.checks.reader c.checks.entries (g.C.Source.left c.checks.cert) c.checks.tally c.checks.invariant.0
    c.more_checks.new.reader (c.in-Ok-true.ensures.check c.in-Ok-true.field-0-test) c.steps_come_first.ensures (g.C.Source.left c.judge_next.new.cert) c.checks.invariant.2 c.judge_next.ensures.taken
