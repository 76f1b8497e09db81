use Rattle.std.proofs.Common.{arith}
use Rattle.ffc_elab.specs.Histories.{check_now}
use Rattle.ffc_check.specs.Judged.{judged_check}
use Rattle.ffc_script.specs.Progress.{known_at}
use Rattle.ffc_solve.proofs.EntryLemmas.{cause_range, same_check, undecided_right}
use Rattle.std.proofs.Common.{subst, sym}
use Rattle.ffc_cert.specs.Ranges.{IsCause}
use Rattle.ffc_solve.proofs.dialogue.entry.Goals as goal

pub returns-in-Err : goal.returns-in-Err
returns-in-Err c =
    let check = check_now (known_at c.args.reader.now) in
    let a = judged_check c.check.result in
    let e = c.check.ensures in
    undecided_right c.args.task a check c.in-Err.stop c.cause.result c.cause.ensures (same_check c.check.result check e.table e.declared e.in_force e.first_order)
    (subst IsCause (sym c.cause.ensures) (cause_range c.args.task.steps a c.in-Err.stop (omega (arith, c.requires.few)) c.in-Err.ensures.caused)) c.in-Err.ensures.caused c.in-Err.ensures.beyond
