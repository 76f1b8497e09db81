use Rattle.std.proofs.Common.{rules, ◌≡◌, inl, refl, Some, ap, ◌∙◌, subst, string_bytes}
use Rattle.ffc_base.specs.Outside.{Appends, AppendsPrefix}
use Rattle.ffc_answer.specs.Answers.{made_answer}
use Rattle.ffc_solve.specs.Generated.{made_text}
use Rattle.ffc_solve.specs.Arguments.{task_of}
use Rattle.ffc_solve.specs.Underway.{IsAnswered, IsCut}
use Rattle.ffc_solve.proofs.ListLemmas.{between, never_rose, not_by_cert, not_by_read, on_err}
use Rattle.ffc_solve.proofs.EndingLemmas.{begun_creating, begun_named, rose_later, stopped_creating, stopped_from}
use Rattle.ffc_solve.proofs.MadeLemmas.{made_cut, made_silent, made_whole, told_at}
use Rattle.ffc_solve.proofs.solve.answer_generated.Goals as goal

pub returns-in_err-create_certificate-clause-err : goal.returns-in_err-create_certificate-clause-err
returns-in_err-create_certificate-clause-err g c =
    on_err c.from_residual-in_err-create_certificate.result _ (stopped_creating (task_of c.args.plan.now) (Some c.args.size) (made_text c.args.size) _ _ _ _ c.in_err-create_certificate.ensures.err)

pub returns-in_err-refused-clause-err : goal.returns-in_err-refused-clause-err
returns-in_err-refused-clause-err g c =
    let co = g.C.Sink.holds c.args.cert.now in
    let c1 = g.C.Sink.holds c.create_certificate.new.cert in
    let cn = g.C.Sink.holds c.run.new.cert in
    let oo = g.O.Sink.holds c.args.out.now in
    let on = g.O.Sink.holds c.run.new.out in
    let bytes : c.into_vec.result.items ≡ made_text c.args.size = search rules in
    let cut = told_at _ (made_text c.args.size) (λ b. IsCut c.in_ok-dialogue.dialogue.task b (between c1 cn) (between oo on)) (c.new-script.ensures.tells ∙ ap Some bytes) c.in_err-refused.ensures.err in
    on_err c.from_residual-in_err-refused.result _ (stopped_from (task_of c.args.plan.now) (Some c.args.size) (made_text c.args.size) (between co cn) (between oo on) c1 c.in_ok-create_certificate.ensures.ok
    (subst (λ n. IsCut n (made_text c.args.size) (between c1 cn) (between oo on)) (c.in_ok-dialogue.ensures.task ∙ c.task.ensures) cut))

pub returns-in_err-refused-clause-cause_out : goal.returns-in_err-refused-clause-cause_out
returns-in_err-refused-clause-cause_out g c = λ is. c.run.ensures.cause_out (search rules)

pub returns-in_err-refused-clause-cause_cert : goal.returns-in_err-refused-clause-cause_cert
returns-in_err-refused-clause-cause_cert g c = λ is. rose_later _ _ _ c.in_ok-create_certificate.ensures.later (c.run.ensures.cause_cert (search rules))

pub returns-in_err-line-clause-err : goal.returns-in_err-line-clause-err
returns-in_err-line-clause-err g c =
    let co = g.C.Sink.holds c.args.cert.now in
    let c1 = g.C.Sink.holds c.create_certificate.new.cert in
    let cn = g.C.Sink.holds c.run.new.cert in
    let oo = g.O.Sink.holds c.args.out.now in
    let o1 = g.O.Sink.holds c.run.new.out in
    let bytes : c.into_vec.result.items ≡ made_text c.args.size = search rules in
    let first = told_at _ (made_text c.args.size) (λ b. IsAnswered c.in_ok-dialogue.dialogue.task b c.in_ok-refused.refused c.run.new.dialogue (between c1 cn) (between oo o1)) (c.new-script.ensures.tells ∙ ap Some bytes) c.in_ok-refused.ensures.ok in
    let h : IsAnswered (task_of c.args.plan.now) (made_text c.args.size) c.in_ok-refused.refused c.run.new.dialogue (between c1 cn) (between oo o1) = subst (λ n. IsAnswered n (made_text c.args.size) c.in_ok-refused.refused c.run.new.dialogue (between c1 cn) (between oo o1)) (c.in_ok-dialogue.ensures.task ∙ c.task.ensures) first in
    on_err c.from_residual-in_err-line.result _ (made_silent (task_of c.args.plan.now) c.args.size (made_text c.args.size) c.in_ok-refused.refused c.run.new.dialogue (between co cn) (between oo o1) c1 c.in_ok-create_certificate.ensures.ok h)

pub returns-in_err-write_out-clause-err : goal.returns-in_err-write_out-clause-err
returns-in_err-write_out-clause-err g c =
    let co = g.C.Sink.holds c.args.cert.now in
    let c1 = g.C.Sink.holds c.create_certificate.new.cert in
    let cn = g.C.Sink.holds c.run.new.cert in
    let oo = g.O.Sink.holds c.args.out.now in
    let o1 = g.O.Sink.holds c.run.new.out in
    let on = g.O.Sink.holds c.write_out.new.out in
    let bytes : c.into_vec.result.items ≡ made_text c.args.size = search rules in
    let first = told_at _ (made_text c.args.size) (λ b. IsAnswered c.in_ok-dialogue.dialogue.task b c.in_ok-refused.refused c.run.new.dialogue (between c1 cn) (between oo o1)) (c.new-script.ensures.tells ∙ ap Some bytes) c.in_ok-refused.ensures.ok in
    let h : IsAnswered (task_of c.args.plan.now) (made_text c.args.size) c.in_ok-refused.refused c.run.new.dialogue (between c1 cn) (between oo o1) = subst (λ n. IsAnswered n (made_text c.args.size) c.in_ok-refused.refused c.run.new.dialogue (between c1 cn) (between oo o1)) (c.in_ok-dialogue.ensures.task ∙ c.task.ensures) first in
    let line = c.in_ok-line.ensures h.entries h.tally in
    let shown : c.as_bytes.result.now ≡ string_bytes c.in_ok-line.line = search rules in
    let told : AppendsPrefix (made_answer (Some c.args.size) h.entries) o1 on = subst (λ a. AppendsPrefix a o1 on) (shown ∙ line) c.in_err-write_out.ensures.err in
    on_err c.from_residual-in_err-write_out.result _ (made_cut (task_of c.args.plan.now) c.args.size (made_text c.args.size) c.in_ok-refused.refused c.run.new.dialogue (between co cn) (between oo on) c1 o1 c.in_ok-create_certificate.ensures.ok h told)

pub returns-in_err-write_out-clause-cause_out : goal.returns-in_err-write_out-clause-cause_out
returns-in_err-write_out-clause-cause_out g c = λ is. rose_later _ _ _ c.run.ensures.later_out (c.write_out.ensures.cause (search rules))

pub returns-in_err-write_out-clause-cause_cert : goal.returns-in_err-write_out-clause-cause_cert
returns-in_err-write_out-clause-cause_cert g c = λ is. absurd (not_by_cert c.write_out.result c.write_out.ensures.only (search rules))

pub returns-clause-ok : goal.returns-clause-ok
returns-clause-ok g c =
    let co = g.C.Sink.holds c.args.cert.now in
    let c1 = g.C.Sink.holds c.create_certificate.new.cert in
    let cn = g.C.Sink.holds c.run.new.cert in
    let oo = g.O.Sink.holds c.args.out.now in
    let o1 = g.O.Sink.holds c.run.new.out in
    let on = g.O.Sink.holds c.write_out.new.out in
    let bytes : c.into_vec.result.items ≡ made_text c.args.size = search rules in
    let first = told_at _ (made_text c.args.size) (λ b. IsAnswered c.in_ok-dialogue.dialogue.task b c.in_ok-refused.refused c.run.new.dialogue (between c1 cn) (between oo o1)) (c.new-script.ensures.tells ∙ ap Some bytes) c.in_ok-refused.ensures.ok in
    let h : IsAnswered (task_of c.args.plan.now) (made_text c.args.size) c.in_ok-refused.refused c.run.new.dialogue (between c1 cn) (between oo o1) = subst (λ n. IsAnswered n (made_text c.args.size) c.in_ok-refused.refused c.run.new.dialogue (between c1 cn) (between oo o1)) (c.in_ok-dialogue.ensures.task ∙ c.task.ensures) first in
    let line = c.in_ok-line.ensures h.entries h.tally in
    let shown : c.as_bytes.result.now ≡ string_bytes c.in_ok-line.line = search rules in
    let told : Appends (made_answer (Some c.args.size) h.entries) o1 on = subst (λ a. Appends a o1 on) (shown ∙ line) c.in_ok-write_out.ensures.ok in
    made_whole (task_of c.args.plan.now) c.args.size (made_text c.args.size) c.in_ok-refused.refused c.run.new.dialogue (between co cn) (between oo on) c1 o1 c.in_ok-create_certificate.ensures.ok h told

pub returns-clause-refused : goal.returns-clause-refused
returns-clause-refused g c =
    let c1 = g.C.Sink.holds c.create_certificate.new.cert in
    let cn = g.C.Sink.holds c.run.new.cert in
    let oo = g.O.Sink.holds c.args.out.now in
    let o1 = g.O.Sink.holds c.run.new.out in
    let bytes : c.into_vec.result.items ≡ made_text c.args.size = search rules in
    let first = told_at _ (made_text c.args.size) (λ b. IsAnswered c.in_ok-dialogue.dialogue.task b c.in_ok-refused.refused c.run.new.dialogue (between c1 cn) (between oo o1)) (c.new-script.ensures.tells ∙ ap Some bytes) c.in_ok-refused.ensures.ok in
    IsAnswered.ended first

pub returns-in_err-text-clause-begun : goal.returns-in_err-text-clause-begun
returns-in_err-text-clause-begun g c = on_err c.from_residual.result _ (inl (refl, refl, refl))

pub returns-in_err-dialogue-clause-begun : goal.returns-in_err-dialogue-clause-begun
returns-in_err-dialogue-clause-begun g c = on_err c.from_residual-in_err-dialogue.result _ (inl (refl, refl, refl))

pub returns-in_err-create_certificate-clause-begun : goal.returns-in_err-create_certificate-clause-begun
returns-in_err-create_certificate-clause-begun g c =
    on_err c.from_residual-in_err-create_certificate.result _ (begun_creating c.args.plan.now.cert_name c.as_str.result.now _ _ _ _ c.as_str.ensures c.in_err-create_certificate.ensures.err)

pub returns-in_err-refused-clause-begun : goal.returns-in_err-refused-clause-begun
returns-in_err-refused-clause-begun g c =
    on_err c.from_residual-in_err-refused.result _ (begun_named c.args.plan.now.cert_name c.as_str.result.now _ _ _ _ _ c.as_str.ensures c.in_ok-create_certificate.ensures.named c.run.ensures.same_name)

pub returns-in_err-line-clause-begun : goal.returns-in_err-line-clause-begun
returns-in_err-line-clause-begun g c =
    on_err c.from_residual-in_err-line.result _ (begun_named c.args.plan.now.cert_name c.as_str.result.now _ _ _ _ _ c.as_str.ensures c.in_ok-create_certificate.ensures.named c.run.ensures.same_name)

pub returns-in_err-write_out-clause-begun : goal.returns-in_err-write_out-clause-begun
returns-in_err-write_out-clause-begun g c =
    on_err c.from_residual-in_err-write_out.result _ (begun_named c.args.plan.now.cert_name c.as_str.result.now _ _ _ _ _ c.as_str.ensures c.in_ok-create_certificate.ensures.named c.run.ensures.same_name)

pub returns-in_err-create_certificate-clause-cause_cert : goal.returns-in_err-create_certificate-clause-cause_cert
returns-in_err-create_certificate-clause-cause_cert g c = λ is. c.create_certificate.ensures.cause (search rules)

pub returns-in_err-refused-clause-only : goal.returns-in_err-refused-clause-only
returns-in_err-refused-clause-only g c = λ is. never_rose (c.run.ensures.cause_script (search rules))

pub returns-in_err-write_out-clause-only : goal.returns-in_err-write_out-clause-only
returns-in_err-write_out-clause-only g c = λ is. not_by_read c.write_out.result c.write_out.ensures.only (search rules)
