use Rattle.std.proofs.Common.{◌≡◌, [], inl, inr, Err, refl, sym, ap, ◌∙◌, subst, arith}
use Rattle.ffc_answer.specs.Answers.{end_answer}
use Rattle.ffc_script.specs.Answers.{HasRun, end_at_fault}
use Rattle.ffc_script.specs.Kept.{AreFirst}
use Rattle.ffc_script.specs.Progress.{steps_of}
use Rattle.ffc_solve.specs.declared.dialogue.Dialogue.{Dialogue}
use Rattle.ffc_solve.specs.Underway.{IsFinished, IsUnfinished}
use Rattle.ffc_solve.proofs.ListLemmas.{between, on_err}
use Rattle.ffc_solve.proofs.AdvanceLemmas.{err_weaker, ok_weaker}
use Rattle.ffc_solve.proofs.SoonLemmas.{grows_finished, grows_in_part, grows_none}
use Rattle.ffc_solve.proofs.RunLemmas.{going_first, going_told, going_fed, going_silent, going_left, going_cut, going_taken, taken_end, cut_told, ended_whole, fault_whole, fault_cut, finished_whole, finished_cut, paused_at, taken_more}
use Rattle.ffc_solve.proofs.running.run.Goals as goal

pub commands-init : goal.commands-init
commands-init g c = record {
  going = going_first c.args.dialogue.now (g.C.Sink.holds c.args.cert.now) (g.O.Sink.holds c.args.out.now) (g.S.Source.left c.args.script.now) c.requires.first;
  task = refl;
  name = refl;
  later_script = omega arith;
  later_out = omega arith;
  later_cert = omega arith;
}

pub returns-in_err-advance-clause-err : goal.returns-in_err-advance-clause-err
returns-in_err-advance-clause-err g c =
    let h = c.commands.invariant.going in
    on_err c.from_residual.result _
    (cut_told c.commands.dialogue c.args.dialogue.now.task _ _ _ _ (g.S.Source.left c.args.script.now) (g.S.Source.left c.commands.script)
    c.commands.invariant.task h (λ more. c.in_err-advance.ensures.err h.entries h.last more h.holds))

pub commands-preserved-in-Answered : goal.commands-preserved-in-Answered
commands-preserved-in-Answered g c =
    let h = c.commands.invariant.going in
    let on = rw c.in-Answered.is at (c.in_ok-advance.ensures.ok h.entries h.last h.holds) in
    record {
      going = going_told c.commands.dialogue c.advance.new.self _ _ _ _ _ _ h on.0 on.1;
      task = on.0.task ∙ c.commands.invariant.task;
      name = c.in_ok-advance.ensures.same_name ∙ c.commands.invariant.name;
      later_script = c.commands.invariant.later_script;
      later_out = let a = c.in_ok-advance.ensures.later_out in let b = c.commands.invariant.later_out in omega arith;
      later_cert = let a = c.in_ok-advance.ensures.later_cert in let b = c.commands.invariant.later_cert in omega arith;
    }

pub returns-in-Ended-clause-ok : goal.returns-in-Ended-clause-ok
returns-in-Ended-clause-ok g c =
    let h = c.commands.invariant.going in
    let on = rw c.in-Ended.is at (c.in_ok-advance.ensures.ok h.entries h.last h.holds) in
    ended_whole c.commands.dialogue c.advance.new.self c.args.dialogue.now.task _ _ _ _ _ _ c.commands.invariant.task h on.0 on.1

pub returns-in_err-tell_fault-in-Fault-clause-err : goal.returns-in_err-tell_fault-in-Fault-clause-err
returns-in_err-tell_fault-in-Fault-clause-err g c =
    let s = c.commands.dialogue in
    let h = c.commands.invariant.going in
    let on = rw c.in-Fault.is at (c.in_ok-advance.ensures.ok h.entries h.last h.holds) in
    let kept = going_silent s s _ _ _ _ _ _ _ _ refl on.0 h in
    on_err c.from_residual-in_err-tell_fault-in-Fault.result _
    (fault_cut s c.args.dialogue.now.task _ _ _ _ _ c.commands.invariant.task kept (end_at_fault c.in-Fault.fault) on.1 c.in_err-tell_fault-in-Fault.ensures.err)

pub returns-in-Fault-clause-ok : goal.returns-in-Fault-clause-ok
returns-in-Fault-clause-ok g c =
    let s = c.commands.dialogue in
    let h = c.commands.invariant.going in
    let on = rw c.in-Fault.is at (c.in_ok-advance.ensures.ok h.entries h.last h.holds) in
    let kept = going_silent s s _ _ _ _ _ _ _ _ refl on.0 h in
    fault_whole s c.args.dialogue.now.task _ _ _ _ _ c.commands.invariant.task kept (end_at_fault c.in-Fault.fault) c.advance.new.self on.2 on.1 c.in_ok-tell_fault-in-Fault.ensures.ok

pub commands-preserved : goal.commands-preserved
commands-preserved g c =
    let s = c.commands.dialogue in
    let t = c.advance.new.self in
    let h = c.commands.invariant.going in
    let waits = rw c.in-Waiting.is at (c.in_ok-advance.ensures.ok h.entries h.last h.holds) in
    let kept = going_silent s t _ _ _ _ _ _ _ _ waits.1 waits.0 h in
    let task : t.task ≡ c.args.dialogue.now.task = ap (λ (u : Dialogue). u.task) waits.1 ∙ c.commands.invariant.task in
    let run = subst (λ (u : Dialogue). HasRun u.reader) (sym waits.1) waits.2 in
    let fed = c.in-Ok-true.ensures.more c.in-Ok-true.field-0-test in
    record {
      going = going_fed t c.read_on.new.dialogue _ _ _ _ _ kept run fed;
      task = fed.same.0 ∙ task;
      name = c.in_ok-advance.ensures.same_name ∙ c.commands.invariant.name;
      later_script = let a = c.in-Ok-true.ensures.later in let b = c.commands.invariant.later_script in omega arith;
      later_out = let a = c.in_ok-advance.ensures.later_out in let b = c.commands.invariant.later_out in omega arith;
      later_cert = let a = c.in_ok-advance.ensures.later_cert in let b = c.commands.invariant.later_cert in omega arith;
    }

pub returns-in-Ok-false-clause-ok : goal.returns-in-Ok-false-clause-ok
returns-in-Ok-false-clause-ok g c =
    let s = c.commands.dialogue in
    let t = c.advance.new.self in
    let h = c.commands.invariant.going in
    let waits = rw c.in-Waiting.is at (c.in_ok-advance.ensures.ok h.entries h.last h.holds) in
    let kept = going_silent s t _ _ _ _ _ _ _ _ waits.1 waits.0 h in
    let task : t.task ≡ c.args.dialogue.now.task = ap (λ (u : Dialogue). u.task) waits.1 ∙ c.commands.invariant.task in
    let end = c.in-Ok-false.ensures.end c.in-Ok-false.field-0-test in
    let on = g.O.Sink.holds c.advance.new.out in
    let o2 = g.O.Sink.holds c.finish.new.out in
    let tally : c.finish.new.dialogue.tally ≡ t.tally = c.finish.ensures.tally ∙ ap (λ (u : Dialogue). u.tally) end.0 in
    ok_weaker c.finish.result _ _ (λ refused f.
    finished_whole t c.args.dialogue.now.task _ _ _ _ _ _ c.long_texts_are_cut.ensures task kept end.1 c.finish.new.dialogue refused tally (subst (λ (u : Dialogue). IsFinished u.reader refused (between on o2)) end.0 f)) c.finish.ensures.ok

pub returns-in-Ok-false-clause-err : goal.returns-in-Ok-false-clause-err
returns-in-Ok-false-clause-err g c =
    let s = c.commands.dialogue in
    let t = c.advance.new.self in
    let h = c.commands.invariant.going in
    let waits = rw c.in-Waiting.is at (c.in_ok-advance.ensures.ok h.entries h.last h.holds) in
    let kept = going_silent s t _ _ _ _ _ _ _ _ waits.1 waits.0 h in
    let task : t.task ≡ c.args.dialogue.now.task = ap (λ (u : Dialogue). u.task) waits.1 ∙ c.commands.invariant.task in
    let end = c.in-Ok-false.ensures.end c.in-Ok-false.field-0-test in
    let on = g.O.Sink.holds c.advance.new.out in
    let o2 = g.O.Sink.holds c.finish.new.out in
    let first = subst (λ (u : Dialogue). AreFirst u.reader.text (steps_of u.reader)) (sym waits.1) c.steps_come_first.ensures in
    err_weaker c.finish.result _ _ (λ f.
    finished_cut t c.args.dialogue.now.task _ _ _ _ _ _ c.long_texts_are_cut.ensures task kept end.1 first (subst (λ (u : Dialogue). IsUnfinished u.reader (between on o2)) end.0 f)) c.finish.ensures.err

pub returns-in-Ok-false-clause-taken : goal.returns-in-Ok-false-clause-taken
returns-in-Ok-false-clause-taken g c =
    let s = c.commands.dialogue in
    let t = c.advance.new.self in
    let h = c.commands.invariant.going in
    let waits = rw c.in-Waiting.is at (c.in_ok-advance.ensures.ok h.entries h.last h.holds) in
    let kept = going_silent s t _ _ _ _ _ _ _ _ waits.1 waits.0 h in
    let end = c.in-Ok-false.ensures.end c.in-Ok-false.field-0-test in
    let o1 = g.O.Sink.holds c.advance.new.out in
    let on = g.O.Sink.holds c.finish.new.out in
    let grows = grows_finished c.finish.result c.read_on.new.dialogue.reader (between o1 on) c.finish.ensures.ok c.finish.ensures.err in
    taken_end t _ _ _ _ o1 on (grows_none _ _ refl) grows _ _ kept _ end.1

pub returns-in-Err-clause-err : goal.returns-in-Err-clause-err
returns-in-Err-clause-err g c =
    let s = c.commands.dialogue in
    let t = c.advance.new.self in
    let h = c.commands.invariant.going in
    let waits = rw c.in-Waiting.is at (c.in_ok-advance.ensures.ok h.entries h.last h.holds) in
    let kept = going_silent s t _ _ _ _ _ _ _ _ waits.1 waits.0 h in
    let task : t.task ≡ c.args.dialogue.now.task = ap (λ (u : Dialogue). u.task) waits.1 ∙ c.commands.invariant.task in
    let first = subst (λ (u : Dialogue). AreFirst u.reader.text (steps_of u.reader)) (sym waits.1) c.steps_come_first.ensures in
    going_cut t c.args.dialogue.now.task _ _ _ _ task kept first

pub returns-in-Err-clause-paused : goal.returns-in-Err-clause-paused
returns-in-Err-clause-paused g c = λ is.
    let s = c.commands.dialogue in
    let t = c.advance.new.self in
    let h = c.commands.invariant.going in
    let waits = rw c.in-Waiting.is at (c.in_ok-advance.ensures.ok h.entries h.last h.holds) in
    let kept = going_silent s t _ _ _ _ _ _ _ _ waits.1 waits.0 h in
    let task : t.task ≡ c.args.dialogue.now.task = ap (λ (u : Dialogue). u.task) waits.1 ∙ c.commands.invariant.task in
    let failed = c.in-Err.ensures.failed is in
    paused_at t c.args.dialogue.now.task _ _ _ _ task (going_left t _ _ _ _ _ failed.1 kept) (subst (λ (u : Dialogue). HasRun u.reader) (sym waits.1) waits.2)

pub returns-in-Err-clause-taken : goal.returns-in-Err-clause-taken
returns-in-Err-clause-taken g c =
    let s = c.commands.dialogue in
    let t = c.advance.new.self in
    let h = c.commands.invariant.going in
    let waits = rw c.in-Waiting.is at (c.in_ok-advance.ensures.ok h.entries h.last h.holds) in
    let kept = going_silent s t _ _ _ _ _ _ _ _ waits.1 waits.0 h in
    elim c.in-Err.ensures.only [
      | inl e ↦ going_taken t _ _ _ _ _ _ (grows_none _ _ refl) (grows_none _ _ refl) _ _ (going_left t _ _ _ _ _ (c.in-Err.ensures.failed (ap Err e)).1 kept)
      | inr e ↦ taken_more t _ _ _ _ _ kept (subst (λ (u : Dialogue). HasRun u.reader) (sym waits.1) waits.2) (c.in-Err.ensures.memory (ap Err e))
    ]

pub returns-in_err-advance-clause-taken : goal.returns-in_err-advance-clause-taken
returns-in_err-advance-clause-taken g c =
    let h = c.commands.invariant.going in
    let cut = c.in_err-advance.ensures.err h.entries h.last [] h.holds in
    going_taken c.commands.dialogue _ _ _ _ _ _ (_, cut.certificate) (cut.text, cut.answered) _ _ h

pub returns-in-Ended-clause-taken : goal.returns-in-Ended-clause-taken
returns-in-Ended-clause-taken g c =
    let h = c.commands.invariant.going in
    let on = rw c.in-Ended.is at (c.in_ok-advance.ensures.ok h.entries h.last h.holds) in
    going_taken c.commands.dialogue _ _ _ _ _ _ (_, on.0.certificate) (on.0.text, on.0.answered) _ _ h

pub returns-in_err-tell_fault-in-Fault-clause-taken : goal.returns-in_err-tell_fault-in-Fault-clause-taken
returns-in_err-tell_fault-in-Fault-clause-taken g c =
    let s = c.commands.dialogue in
    let h = c.commands.invariant.going in
    let on = rw c.in-Fault.is at (c.in_ok-advance.ensures.ok h.entries h.last h.holds) in
    let kept = going_silent s s _ _ _ _ _ _ _ _ refl on.0 h in
    going_taken s _ _ _ _ _ _ (grows_none _ _ refl) (grows_in_part (end_answer (end_at_fault c.in-Fault.fault)) _ _ c.in_err-tell_fault-in-Fault.ensures.err) _ _ kept

pub returns-in-Fault-clause-taken : goal.returns-in-Fault-clause-taken
returns-in-Fault-clause-taken g c =
    let s = c.commands.dialogue in
    let h = c.commands.invariant.going in
    let on = rw c.in-Fault.is at (c.in_ok-advance.ensures.ok h.entries h.last h.holds) in
    let kept = going_silent s s _ _ _ _ _ _ _ _ refl on.0 h in
    going_taken s _ _ _ _ _ _ (grows_none _ _ refl) (end_answer (end_at_fault c.in-Fault.fault), c.in_ok-tell_fault-in-Fault.ensures.ok) _ _ kept
