use Rattle.std.proofs.Common.{Err, ap, refl}
use Rattle.ffc_verify.proofs.DueLemmas.{left_due, says_answer}
use Rattle.ffc_verify.proofs.StopLemmas.{left_without, says_without, which_stop, which_answer, refused_ending}
use Rattle.ffc_verify.proofs.verify.run_plan.Goals as goal

pub returns-in-Err-clause-usage : goal.returns-in-Err-clause-usage
returns-in-Err-clause-usage g c = λ e. (which_stop c.in-Err.stop c.status_without.result c.status_without.ensures).3 e

pub returns-in-Err-clause-left : goal.returns-in-Err-clause-left
returns-in-Err-clause-left g c =
    left_without c.in-Err.stop c.status_without.result c.args.plan.now.bits c.args.plan.now.cores (g.S.Source.left c.args.script.now) (g.C.NamedSource.contents c.args.cert.now c.args.plan.now.cert.now) (g.O.Sink.holds c.args.out.now)
    c.status_without.ensures

pub returns-in-Err-clause-script : goal.returns-in-Err-clause-script
returns-in-Err-clause-script g c =
    says_without c.in-Err.stop c.status_without.result (g.S.Source.left c.args.script.now) (g.O.Sink.holds c.args.out.now) c.status_without.ensures (λ e. c.in-Err.ensures.opened (ap Err e))

pub returns-in-Err-clause-read_fault : goal.returns-in-Err-clause-read_fault
returns-in-Err-clause-read_fault g c = λ e. c.in-Err.ensures.read_fault (ap Err ((which_stop c.in-Err.stop c.status_without.result c.status_without.ensures).0 e))

pub returns-in-Err-clause-cert_fault : goal.returns-in-Err-clause-cert_fault
returns-in-Err-clause-cert_fault g c = λ e. c.in-Err.ensures.cert_fault (ap Err ((which_stop c.in-Err.stop c.status_without.result c.status_without.ensures).1 e))

pub returns-in-Err-clause-write_fault : goal.returns-in-Err-clause-write_fault
returns-in-Err-clause-write_fault g c = λ e. absurd ((which_stop c.in-Err.stop c.status_without.result c.status_without.ensures).2 e)

pub returns-clause-usage : goal.returns-clause-usage
returns-clause-usage g c = λ e. (which_answer c.in-Ok.answer c.write_answer.result c.write_answer.ensures.ended).2 e

pub returns-clause-left : goal.returns-clause-left
returns-clause-left g c =
    left_due c.args.plan.now.bits c.args.plan.now.cores (g.S.Source.left c.args.script.now) (g.C.NamedSource.contents c.args.cert.now c.args.plan.now.cert.now) c.in-Ok.answer c.write_answer.result (g.O.Sink.holds c.args.out.now)
    (g.O.Sink.holds c.write_answer.new.out) c.in-Ok.ensures.ok c.write_answer.ensures.left

pub returns-clause-script : goal.returns-clause-script
returns-clause-script g c =
    says_answer (g.S.Source.left c.args.script.now) c.in-Ok.answer c.write_answer.result (g.O.Sink.holds c.args.out.now) (g.O.Sink.holds c.write_answer.new.out) c.write_answer.ensures.ended c.write_answer.ensures.left
    c.in-Ok.ensures.ending

pub returns-clause-read_fault : goal.returns-clause-read_fault
returns-clause-read_fault g c = λ e. absurd ((which_answer c.in-Ok.answer c.write_answer.result c.write_answer.ensures.ended).0 e)

pub returns-clause-cert_fault : goal.returns-clause-cert_fault
returns-clause-cert_fault g c = λ e. absurd ((which_answer c.in-Ok.answer c.write_answer.result c.write_answer.ensures.ended).1 e)

pub returns-in-Err-clause-unread : goal.returns-in-Err-clause-unread
returns-in-Err-clause-unread g c = λ e. (refl, c.in-Err.ensures.unread (ap Err ((which_stop c.in-Err.stop c.status_without.result c.status_without.ensures).0 e)))

pub returns-in-Err-clause-unopened : goal.returns-in-Err-clause-unopened
returns-in-Err-clause-unopened g c = λ e. absurd ((which_stop c.in-Err.stop c.status_without.result c.status_without.ensures).4 e)

pub returns-clause-unread : goal.returns-clause-unread
returns-clause-unread g c = λ e. absurd ((which_answer c.in-Ok.answer c.write_answer.result c.write_answer.ensures.ended).0 e)

pub returns-clause-unanswered : goal.returns-clause-unanswered
returns-clause-unanswered g c = λ e. absurd ((which_answer c.in-Ok.answer c.write_answer.result c.write_answer.ensures.ended).1 e)

pub returns-clause-unopened : goal.returns-clause-unopened
returns-clause-unopened g c = λ e. c.in-Ok.ensures.unopened (refused_ending c.in-Ok.answer c.write_answer.result c.write_answer.ensures.ended e)
