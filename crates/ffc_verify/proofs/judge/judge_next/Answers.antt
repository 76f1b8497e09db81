use Rattle.std.proofs.Common.{subst}
use Rattle.ffc_verify.specs.Reading.{IsNext}
use Rattle.ffc_verify.proofs.VerdictLemmas.{not_complete}
use Rattle.ffc_verify.proofs.judge.judge_next.Goals as goal

pub unreachable-requires : goal.unreachable-requires
unreachable-requires g c =
    not_complete c.args.entries.now c.next_entry.new.entries (g.C.Source.left c.args.cert.now) c.requires.awaited
    (subst (IsNext c.args.entries.now c.next_entry.new.entries (g.C.Source.left c.args.cert.now)) c.in-Ok-Complete.field-0-is c.in-Ok-Complete.ensures.next)
