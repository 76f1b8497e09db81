use Rattle.std.proofs.Common.{None, refl, subst, ◌∙◌}
use Rattle.ffc_solve.specs.Arguments.{task_of}
use Rattle.ffc_solve.specs.Underway.{IsAnswered, IsCut, IsPausedAt}
use Rattle.ffc_solve.proofs.ListLemmas.{between, on_err}
use Rattle.ffc_solve.proofs.AdvanceLemmas.{err_weaker, ok_weaker}
use Rattle.ffc_solve.proofs.EndingLemmas.{begun_creating, begun_named, if_any, named_still, on_ok, paused_from, rose_later, soon_from, stopped_creating, stopped_from, stopped_headed, told_if, whole_from}
use Rattle.ffc_solve.proofs.solve.answer_script.Goals as goal

pub returns-in_err-create_certificate-clause-err : goal.returns-in_err-create_certificate-clause-err
returns-in_err-create_certificate-clause-err g c =
    on_err c.from_residual.result _ (if_any (g.S.Source.left c.args.script.now) _ (λ b. stopped_creating (task_of c.args.plan.now) None b _ _ _ _ c.in_err-create_certificate.ensures.err))

pub returns-in_err-dialogue-clause-err : goal.returns-in_err-dialogue-clause-err
returns-in_err-dialogue-clause-err g c =
    on_err c.from_residual-in_err-dialogue.result _ (if_any (g.S.Source.left c.args.script.now) _ (λ b. stopped_headed (task_of c.args.plan.now) None b _ _ c.in_ok-create_certificate.ensures.ok))

pub returns-clause-ok : goal.returns-clause-ok
returns-clause-ok g c =
    let co = g.C.Sink.holds c.args.cert.now in
    let c1 = g.C.Sink.holds c.create_certificate.new.cert in
    let cn = g.C.Sink.holds c.run.new.cert in
    let oo = g.O.Sink.holds c.args.out.now in
    let on = g.O.Sink.holds c.run.new.out in
    on_ok c.run.result _ _ (λ refused h. told_if (g.S.Source.left c.args.script.now) _ _ (λ b answered.
    whole_from (task_of c.args.plan.now) b refused c.run.new.dialogue (between co cn) (between oo on) c1 c.in_ok-create_certificate.ensures.ok
    (subst (λ n. IsAnswered n b refused c.run.new.dialogue (between c1 cn) (between oo on)) (c.in_ok-dialogue.ensures.task ∙ c.task.ensures) answered)) h) c.run.ensures.ok

pub returns-clause-refused : goal.returns-clause-refused
returns-clause-refused g c =
    ok_weaker c.run.result _ _ (λ refused h. told_if (g.S.Source.left c.args.script.now) _ _ (λ b answered. IsAnswered.ended answered) h) c.run.ensures.ok

pub returns-clause-err : goal.returns-clause-err
returns-clause-err g c =
    let co = g.C.Sink.holds c.args.cert.now in
    let c1 = g.C.Sink.holds c.create_certificate.new.cert in
    let cn = g.C.Sink.holds c.run.new.cert in
    let oo = g.O.Sink.holds c.args.out.now in
    let on = g.O.Sink.holds c.run.new.out in
    err_weaker c.run.result _ _ (λ h. told_if (g.S.Source.left c.args.script.now) _ _ (λ b cut.
    stopped_from (task_of c.args.plan.now) None b (between co cn) (between oo on) c1 c.in_ok-create_certificate.ensures.ok (subst (λ n. IsCut n b (between c1 cn) (between oo on)) (c.in_ok-dialogue.ensures.task ∙ c.task.ensures) cut)) h) c.run.ensures.err

pub returns-clause-paused : goal.returns-clause-paused
returns-clause-paused g c = λ is.
    let co = g.C.Sink.holds c.args.cert.now in
    let c1 = g.C.Sink.holds c.create_certificate.new.cert in
    let cn = g.C.Sink.holds c.run.new.cert in
    let oo = g.O.Sink.holds c.args.out.now in
    let on = g.O.Sink.holds c.run.new.out in
    told_if (g.S.Source.left c.args.script.now) _ _ (λ b h.
    (h.0, h.1, paused_from (task_of c.args.plan.now) h.0 (between co cn) (between oo on) c1 c.in_ok-create_certificate.ensures.ok (subst (λ n. IsPausedAt n h.0 (between c1 cn) (between oo on)) (c.in_ok-dialogue.ensures.task ∙ c.task.ensures) h.2))) (c.run.ensures.paused is)

pub returns-clause-cause_cert : goal.returns-clause-cause_cert
returns-clause-cause_cert g c = λ is. rose_later _ _ _ c.in_ok-create_certificate.ensures.later (c.run.ensures.cause_cert is)

pub returns-in_err-create_certificate-clause-begun : goal.returns-in_err-create_certificate-clause-begun
returns-in_err-create_certificate-clause-begun g c =
    on_err c.from_residual.result _ (begun_creating c.args.plan.now.cert_name c.as_str.result.now _ _ _ _ c.as_str.ensures c.in_err-create_certificate.ensures.err)

pub returns-in_err-dialogue-clause-begun : goal.returns-in_err-dialogue-clause-begun
returns-in_err-dialogue-clause-begun g c =
    on_err c.from_residual-in_err-dialogue.result _ (begun_named c.args.plan.now.cert_name c.as_str.result.now _ _ _ _ _ c.as_str.ensures c.in_ok-create_certificate.ensures.named refl)

pub returns-clause-begun : goal.returns-clause-begun
returns-clause-begun g c = on_err c.run.result _ (begun_named c.args.plan.now.cert_name c.as_str.result.now _ _ _ _ _ c.as_str.ensures c.in_ok-create_certificate.ensures.named c.run.ensures.same_name)

pub returns-clause-taken : goal.returns-clause-taken
returns-clause-taken g c =
    let co = g.C.Sink.holds c.args.cert.now in
    let c1 = g.C.Sink.holds c.create_certificate.new.cert in
    let cn = g.C.Sink.holds c.run.new.cert in
    let oo = g.O.Sink.holds c.args.out.now in
    let on = g.O.Sink.holds c.run.new.out in
    told_if (g.S.Source.left c.args.script.now) _ _ (λ b h. (h.0, h.1, h.2, soon_from c.args.plan.now.bits h.0 (between co cn) (between oo on) c1 c.in_ok-create_certificate.ensures.ok h.3)) c.run.ensures.taken

pub returns-clause-named : goal.returns-clause-named
returns-clause-named g c =
    named_still c.run.result c.args.plan.now.cert_name c.as_str.result.now _ _ _ c.as_str.ensures c.in_ok-create_certificate.ensures.named c.run.ensures.same_name
