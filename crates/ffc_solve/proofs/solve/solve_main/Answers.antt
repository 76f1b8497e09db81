use Rattle.std.proofs.Common.{rules, map, None, Some, subst}
use Rattle.ffc_solve.specs.Solving.{AnswersSoon, IsPaused, IsTaken}
use Rattle.ffc_solve.proofs.ArgumentLemmas.{none_given}
use Rattle.ffc_solve.proofs.EndingLemmas.{ends_as, ends_memory, planned, taken_none, told_if}
use Rattle.ffc_solve.proofs.ListLemmas.{between}
use Rattle.ffc_solve.proofs.PausedLemmas.{paused_under}
use Rattle.ffc_solve.proofs.solve.solve_main.Goals as goal

pub returns-in-Err-Usage-clause-usage : goal.returns-in-Err-Usage-clause-usage
returns-in-Err-Usage-clause-usage g c = λ _. c.read.ensures.usage (search rules)

pub returns-in-None-clause-left : goal.returns-in-None-clause-left
returns-in-None-clause-left g c =
    planned (map (λ w. w.now) c.args.words.now) c.in-Ok.plan None c.answer_script.result (g.S.Source.left c.args.script.now) _ _ _ _
    c.in-Ok.ensures.plan (search rules) c.status_of.ensures c.answer_script.ensures.ok c.answer_script.ensures.refused c.answer_script.ensures.err c.answer_script.ensures.named c.answer_script.ensures.begun

pub returns-clause-left : goal.returns-clause-left
returns-clause-left g c =
    planned (map (λ w. w.now) c.args.words.now) c.in-Ok.plan (Some c.in-Some.size) c.answer_generated.result (g.S.Source.left c.args.script.now) _ _ _ _
    c.in-Ok.ensures.plan (search rules) c.status_of-in-Some.ensures c.answer_generated.ensures.ok c.answer_generated.ensures.refused c.answer_generated.ensures.err c.answer_generated.ensures.named c.answer_generated.ensures.begun

pub returns-in-Err-Usage-clause-ends : goal.returns-in-Err-Usage-clause-ends
returns-in-Err-Usage-clause-ends g c = λ accepted read write cert bytes script. absurd (accepted (c.read.ensures.usage (search rules)))

pub returns-in-Err-Memory-clause-ends : goal.returns-in-Err-Memory-clause-ends
returns-in-Err-Memory-clause-ends g c = λ accepted read write cert bytes script. ends_memory _ _ (search rules)

pub returns-in-None-clause-refused : goal.returns-in-None-clause-refused
returns-in-None-clause-refused g c = λ refused. absurd (refused c.in-Ok.ensures.plan.taken)

pub returns-in-None-clause-unread : goal.returns-in-None-clause-unread
returns-in-None-clause-unread g c = λ asked. absurd (none_given _ c.in-Ok.plan.make c.in-Ok.ensures.plan.make (search rules) asked)

pub returns-in-None-clause-ends : goal.returns-in-None-clause-ends
returns-in-None-clause-ends g c = λ accepted read write cert bytes script.
    ends_as (map (λ w. w.now) c.args.words.now) c.in-Ok.plan None c.answer_script.result _ (g.S.Source.left c.args.script.now) bytes c.in-Ok.ensures.plan (search rules) c.status_of.ensures script c.answer_script.ensures.refused
    (λ is. read (c.answer_script.ensures.cause_script is)) (λ is. write (c.answer_script.ensures.cause_out is)) (λ is. cert (c.answer_script.ensures.cause_cert is))

pub returns-clause-refused : goal.returns-clause-refused
returns-clause-refused g c = λ refused. absurd (refused c.in-Ok.ensures.plan.taken)

pub returns-clause-ends : goal.returns-clause-ends
returns-clause-ends g c = λ accepted read write cert bytes script.
    ends_as (map (λ w. w.now) c.args.words.now) c.in-Ok.plan (Some c.in-Some.size) c.answer_generated.result _ (g.S.Source.left c.args.script.now) bytes c.in-Ok.ensures.plan (search rules) c.status_of-in-Some.ensures script c.answer_generated.ensures.refused
    c.answer_generated.ensures.only (λ is. write (c.answer_generated.ensures.cause_out is)) (λ is. cert (c.answer_generated.ensures.cause_cert is))

pub returns-in-None-clause-paused : goal.returns-in-None-clause-paused
returns-in-None-clause-paused g c =
    paused_under (map (λ w. w.now) c.args.words.now) c.in-Ok.plan c.answer_script.result c.status_of.result (g.S.Source.left c.args.script.now)
    (λ text b. IsTaken text b (g.S.Source.left c.answer_script.new.script)) (λ task text. IsPaused task text (between (g.C.Sink.holds c.args.cert.now) (g.C.Sink.holds c.answer_script.new.cert)) (between (g.O.Sink.holds c.args.out.now) (g.O.Sink.holds c.answer_script.new.out)))
    c.in-Ok.ensures.plan c.status_of.ensures c.answer_script.ensures.paused

pub returns-in-Err-Usage-clause-taken : goal.returns-in-Err-Usage-clause-taken
returns-in-Err-Usage-clause-taken g c = taken_none _ _ _ _

pub returns-in-Err-Memory-clause-taken : goal.returns-in-Err-Memory-clause-taken
returns-in-Err-Memory-clause-taken g c = taken_none _ _ _ _

pub returns-in-None-clause-taken : goal.returns-in-None-clause-taken
returns-in-None-clause-taken g c =
    let words = map (λ w. w.now) c.args.words.now in
    let cert = between (g.C.Sink.holds c.args.cert.now) (g.C.Sink.holds c.answer_script.new.cert) in
    let out = between (g.O.Sink.holds c.args.out.now) (g.O.Sink.holds c.answer_script.new.out) in
    told_if (g.S.Source.left c.args.script.now) _ _ (λ b h. (h.0, h.1, h.2, subst (λ bits. AnswersSoon bits h.0 cert out) c.in-Ok.ensures.plan.bits h.3)) c.answer_script.ensures.taken
