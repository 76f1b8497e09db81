use Rattle.std.proofs.Common.{ℕ, length, slice_get, Some, ◌≡◌, true}
use Rattle.ffc_term.specs.declared.value.Value.TheVariants as value
use Rattle.ffc_term.specs.Values.{value_at}
use Rattle.ffc_rules.specs.Cores.{core}
use Rattle.ffc_rules.specs.Entries.{limits}
use Rattle.ffc_rules.proofs.EntryLemmas.{core_sound}
use Rattle.ffc_check.specs.Judged.{judged_check}
use Rattle.std.proofs.lemmas.Option.{MatchOption-at_none}
use Rattle.ffc_core.specs.Outside.{AreListed, IsLeastOutside}
use Rattle.ffc_core.proofs.CoreLemmas.{All-listed}
use Rattle.ffc_core.proofs.checking.check_core.Goals as goal

pub returns-in-None-clause-meaning : goal.returns-in-None-clause-meaning
returns-in-None-clause-meaning c assignment all =
    let check = judged_check c.args.check.now in
    let numbers = core c.args.entry.now (length check.in_force) in
    core_sound limits check c.args.entry.now c.args.first_line assignment c.requires.valid c.requires.unsat c.in_ok-check_entry.ensures.ok
    (All-listed (λ k. (id : ℕ) → slice_get check.in_force k ≡ Some id → value_at check.nodes assignment id ≡ value.Bool true)
    (core c.args.entry.now (length check.in_force)) c.args.listed.now (MatchOption-at_none (AreListed numbers c.args.listed.now) (IsLeastOutside numbers c.args.listed.now) c.in-None.is c.in_ok-first_outside.ensures) all)
