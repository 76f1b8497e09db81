use Rattle.std.proofs.Common.{◌∙◌}
use Rattle.ffc_report.proofs.DecidedLemmas.{decided_in_memory}
use Rattle.ffc_report.proofs.judging.judge_with.Goals as goal

pub returns : goal.returns
returns c = λ decided.
    let verdict = c.verdict_of-verdict.ensures decided in
    decided_in_memory _ _ c.check_main-status.result c.in_ok-source.source c.in_ok-cert.cert c.args.script.now c.args.certificate.now c.new-out.result c.check_main-status.new.out c.bytes.result.now
    c.in_ok-source.ensures c.in_ok-cert.ensures (c.new-out.ensures.fresh ∙ c.new.ensures.items) c.bytes.ensures c.check_main-status.ensures.left c.check_main-status.ensures.accepted_means verdict.0 verdict.1
