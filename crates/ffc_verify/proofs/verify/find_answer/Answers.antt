use Rattle.std.proofs.Common.{◌≡◌, take, sym, subst, ◌∙◌}
use Rattle.std.specs.Option.{IfSome}
use Rattle.std.proofs.lemmas.Result.{IfErr-weaker}
use Rattle.ffc_smt.specs.Scripts.{reads, AtFault, Done}
use Rattle.ffc_verify.specs.declared.verify.CheckStatus.TheVariants as status
use Rattle.ffc_verify.specs.declared.verify.Ending.TheVariants as ending
use Rattle.ffc_verify.specs.Due.{due}
use Rattle.ffc_verify.specs.Texts.{fault_line}
use Rattle.ffc_verify.specs.Ending.{due_of, status_at, status_of, IsEndedAs}
use Rattle.ffc_verify.specs.Status.{IsReadAt}
use Rattle.ffc_verify.specs.Walking.{IsFaultOf}
use Rattle.ffc_verify.proofs.DueLemmas.{read_due, read_ended, read_done, fault_due, ended_at_fault, ok_by}
use Rattle.ffc_verify.proofs.EnoughLemmas.{script_read}
use Rattle.ffc_verify.proofs.StopLemmas.{never_refused}
use Rattle.ffc_verify.proofs.verify.find_answer.Goals as goal

pub returns-in-Ok-count_checks-clause-ok : goal.returns-in-Ok-count_checks-clause-ok
returns-in-Ok-count_checks-clause-ok g c =
    let contents = g.C.NamedSource.contents c.args.cert.now c.args.plan.now.cert.now in
    let left = g.S.Source.left c.args.script.now in
    let text = c.as_slice-in-Ok-count_checks.result.now in
    let cores = c.args.plan.now.cores in
    let bits = c.args.plan.now.bits in
    let is = subst (λ t. IfSome left (λ bytes. t ≡ take 67108865 bytes)) (sym c.as_slice-in-Ok-count_checks.ensures.value) c.in-Ok.ensures.ok in
    ok_by c.certificate_answer.result (λ a. IfSome contents (λ certificate. due_of a ≡ due bits cores text certificate))
    (λ a. IfSome left (λ bytes. IfSome contents (λ certificate. due_of a ≡ due bits cores bytes certificate))) c.certificate_answer.ensures.ok
    (λ a h. read_due bits cores text left contents a is h)

pub returns-in-Ok-count_checks-clause-ending : goal.returns-in-Ok-count_checks-clause-ending
returns-in-Ok-count_checks-clause-ending g c =
    let left = g.S.Source.left c.args.script.now in
    let text = c.as_slice-in-Ok-count_checks.result.now in
    let is = subst (λ t. IfSome left (λ bytes. t ≡ take 67108865 bytes)) (sym c.as_slice-in-Ok-count_checks.ensures.value) c.in-Ok.ensures.ok in
    ok_by c.certificate_answer.result (λ a. IsEndedAs a (reads text).end) (λ a. IfSome left (λ bytes. IsEndedAs a (reads bytes).end)) c.certificate_answer.ensures.ending
    (λ a h. read_ended text left a is h)

pub returns-in-Ok-count_checks-clause-opened : goal.returns-in-Ok-count_checks-clause-opened
returns-in-Ok-count_checks-clause-opened g c = λ e.
    let left = g.S.Source.left c.args.script.now in
    let text = c.as_slice.result.now in
    let is = subst (λ t. IfSome left (λ bytes. t ≡ take 67108865 bytes)) (sym c.as_slice.ensures.value) c.in-Ok.ensures.ok in
    read_done text left is c.in-Ok-count_checks.ensures.ok.done

pub returns-in-Fault-clause-ok : goal.returns-in-Fault-clause-ok
returns-in-Fault-clause-ok g c =
    let contents = g.C.NamedSource.contents c.args.cert.now c.args.plan.now.cert.now in
    let left = g.S.Source.left c.args.script.now in
    let text = c.as_slice.result.now in
    let cores = c.args.plan.now.cores in
    let bits = c.args.plan.now.bits in
    let f = c.in-Fault.fault in
    let is = subst (λ t. IfSome left (λ bytes. t ≡ take 67108865 bytes)) (sym c.as_slice.ensures.value) c.in-Ok.ensures.ok in
    let end : (reads text).end ≡ AtFault f.line f.column f.code = subst (IsFaultOf text) c.in-Fault.is c.in-Err.ensures.stop in
    ok_by c.fault_answer.result (λ a. due_of a ≡ record { status = status.ScriptRefused; text = fault_line f.line f.column f.code })
    (λ a. IfSome left (λ bytes. IfSome contents (λ certificate. due_of a ≡ due bits cores bytes certificate))) c.fault_answer.ensures.ok
    (λ a e. read_due bits cores text left contents a is (fault_due bits cores text contents a f.line f.column f.code e end))

pub returns-in-Fault-clause-ending : goal.returns-in-Fault-clause-ending
returns-in-Fault-clause-ending g c =
    let left = g.S.Source.left c.args.script.now in
    let text = c.as_slice.result.now in
    let f = c.in-Fault.fault in
    let is = subst (λ t. IfSome left (λ bytes. t ≡ take 67108865 bytes)) (sym c.as_slice.ensures.value) c.in-Ok.ensures.ok in
    let end : (reads text).end ≡ AtFault f.line f.column f.code = subst (IsFaultOf text) c.in-Fault.is c.in-Err.ensures.stop in
    ok_by c.fault_answer.result (λ a. due_of a ≡ record { status = status.ScriptRefused; text = fault_line f.line f.column f.code })
    (λ a. IfSome left (λ bytes. IsEndedAs a (reads bytes).end)) c.fault_answer.ensures.ok
    (λ a e. read_ended text left a is (ended_at_fault a (reads text).end f.line f.column f.code e end))

pub returns-in-Ok-count_checks-clause-unopened : goal.returns-in-Ok-count_checks-clause-unopened
returns-in-Ok-count_checks-clause-unopened g c =
    let end = (reads c.as_slice-in-Ok-count_checks.result.now).end in
    let done : end ≡ Done = subst (λ t. (reads t).end ≡ Done) (c.as_slice.ensures.value ∙ sym c.as_slice-in-Ok-count_checks.ensures.value) c.in-Ok-count_checks.ensures.ok.done in
    ok_by c.certificate_answer.result (λ a. IsEndedAs a end) (λ a. a.ending ≡ ending.ScriptRefused → c.certificate_answer.new.cert ≡ c.args.cert.now) c.certificate_answer.ensures.ending
    (λ a h e. absurd (never_refused a end h done e))

pub returns-in-Ok-count_checks-clause-read : goal.returns-in-Ok-count_checks-clause-read
returns-in-Ok-count_checks-clause-read g c =
    let contents = g.C.NamedSource.contents c.args.cert.now c.args.plan.now.cert.now in
    let left = g.S.Source.left c.args.script.now in
    let text = c.as_slice-in-Ok-count_checks.result.now in
    let old = g.C.Source.left c.args.cert.now in
    let new = g.C.Source.left c.certificate_answer.new.cert in
    let is = subst (λ t. IfSome left (λ bytes. t ≡ take 67108865 bytes)) (sym c.as_slice-in-Ok-count_checks.ensures.value) c.in-Ok.ensures.ok in
    ok_by c.certificate_answer.result (λ a. IfSome contents (λ certificate. IsReadAt (status_of a.ending) c.args.plan.now.bits text certificate old new))
    (λ a. IfSome left (λ bytes. IfSome contents (λ certificate. IsReadAt (status_of a.ending) c.args.plan.now.bits bytes certificate old new))) c.certificate_answer.ensures.read
    (λ a h. script_read (status_of a.ending) c.args.plan.now.bits text left contents old new is h)

pub returns-in-Ok-count_checks-clause-stopped : goal.returns-in-Ok-count_checks-clause-stopped
returns-in-Ok-count_checks-clause-stopped g c =
    let contents = g.C.NamedSource.contents c.args.cert.now c.args.plan.now.cert.now in
    let left = g.S.Source.left c.args.script.now in
    let text = c.as_slice-in-Ok-count_checks.result.now in
    let old = g.C.Source.left c.args.cert.now in
    let new = g.C.Source.left c.certificate_answer.new.cert in
    let is = subst (λ t. IfSome left (λ bytes. t ≡ take 67108865 bytes)) (sym c.as_slice-in-Ok-count_checks.ensures.value) c.in-Ok.ensures.ok in
    IfErr-weaker c.certificate_answer.result (λ stop. IfSome contents (λ certificate. IsReadAt (status_at stop) c.args.plan.now.bits text certificate old new))
    (λ stop. IfSome left (λ bytes. IfSome contents (λ certificate. IsReadAt (status_at stop) c.args.plan.now.bits bytes certificate old new)))
    (λ stop h. script_read (status_at stop) c.args.plan.now.bits text left contents old new is h) c.certificate_answer.ensures.stopped
