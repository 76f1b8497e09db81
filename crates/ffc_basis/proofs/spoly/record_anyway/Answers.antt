use Rattle.std.proofs.Common.{OnOk, subst}
use Rattle.ffc_line.specs.Lines.{Parts}
use Rattle.ffc_basis.specs.Reduction.{IsRecorded}
use Rattle.ffc_basis.proofs.spoly.record_anyway.Goals as goal

pub returns-in_ok-past_limit-in-Err : goal.returns-in_ok-past_limit-in-Err
returns-in_ok-past_limit-in-Err g c =
    subst (λ (ts : Parts). OnOk c.append.result (IsRecorded g.F.Field.ORDER ts c.append.new.self c.args.line (g.F.Field.value c.args.c) c.args.m.now)) c.in-Err.ensures.unchanged c.append.ensures.recorded
