use Rattle.std.proofs.Common.{}
use Rattle.std.proofs.lemmas.Result.{MatchResult-weaker}
use Rattle.ffc_rules.specs.Entries.{limits}
use Rattle.ffc_rules.proofs.EntryLemmas.{entry_true}
use Rattle.ffc_check.specs.Judged.{judged_check}
use Rattle.ffc_check.proofs.check.check_entry.Goals as goal

pub returns-clause-meaning : goal.returns-clause-meaning
returns-clause-meaning c =
    MatchResult-weaker c.judge.result c.judge.ensures (λ _ kept. entry_true limits (judged_check c.args.check.now) c.args.entry.now c.args.first_line c.requires.valid kept) (λ _ _. tt)
