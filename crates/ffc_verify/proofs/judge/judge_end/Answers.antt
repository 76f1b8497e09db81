use Rattle.std.proofs.Common.{subst}
use Rattle.ffc_verify.specs.Reading.{IsNext}
use Rattle.ffc_verify.proofs.VerdictLemmas.{no_more_entries}
use Rattle.ffc_verify.proofs.judge.judge_end.Goals as goal

pub unreachable-requires : goal.unreachable-requires
unreachable-requires g c =
    no_more_entries c.args.entries.now c.next_entry.new.entries (g.C.Source.left c.args.cert.now) c.in-Ok-Entry.field-0-0 c.requires.all
    (subst (IsNext c.args.entries.now c.next_entry.new.entries (g.C.Source.left c.args.cert.now)) c.in-Ok-Entry.field-0-is c.in-Ok-Entry.ensures.next)
