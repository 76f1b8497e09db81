use Rattle.std.proofs.Common.{◌≡◌}
use Rattle.std.specs.Option.{IfSome}
use Rattle.ffc_verify.specs.Due.{due}
use Rattle.ffc_verify.specs.Ending.{due_of, verdict_due}
use Rattle.ffc_verify.proofs.DueLemmas.{opened_due, ok_by}
use Rattle.ffc_verify.proofs.verify.certificate_answer.Goals as goal

pub returns-in-Ok-judge-clause-ok : goal.returns-in-Ok-judge-clause-ok
returns-in-Ok-judge-clause-ok g c =
    let contents = g.C.NamedSource.contents c.args.cert.now c.args.plan.now.cert.now in
    let left = g.C.Source.left c.open_named.new.self in
    let script = c.args.script.now in
    let cores = c.args.plan.now.cores in
    let bits = c.args.plan.now.bits in
    let v = c.in-Ok-judge.verdict in
    ok_by c.verdict_answer.result (λ a. due_of a ≡ verdict_due v) (λ a. IfSome contents (λ certificate. due_of a ≡ due bits cores script certificate)) c.verdict_answer.ensures.ok
    (λ a e. opened_due bits cores script contents left v a c.requires.counted.done c.in-Ok.ensures.opened c.in-Ok-judge.ensures.ok e)
