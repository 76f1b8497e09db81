use Rattle.std.proofs.Common.{◌∷◌}
use Rattle.ffc_conjunction.specs.declared.forcing.Mark.TheVariants.{Unmarked, Asserted}
use Rattle.ffc_conjunction.specs.Forced.{IsForced}
use Rattle.ffc_conjunction.proofs.ForcedLemmas.{on_step, mark_read, deny_unmarked, deny_asserted}
use Rattle.ffc_conjunction.proofs.forcing.Forcing.deny.Goals as goal

pub returns-in-Unmarked-clause-forced : goal.returns-in-Unmarked-clause-forced
returns-in-Unmarked-clause-forced c = λ k found denied s gives.
    let f = c.args.self.now in
    let id = c.args.id in
    on_step c.add.result (IsForced k found (id ∷ denied)) _ _ _ _ _ _ c.add.ensures.marks c.add.ensures.reasons c.add.ensures.clashes
    (deny_unmarked k found denied f.marks.items f.reasons.items id c.args.reason f.clashes c.requires (mark_read f.marks.items id c.index.result.now Unmarked c.requires c.index.ensures c.in-Unmarked.is) gives s)

pub returns-in-Asserted-clause-forced : goal.returns-in-Asserted-clause-forced
returns-in-Asserted-clause-forced c = λ k found denied s gives.
    let f = c.args.self.now in
    let id = c.args.id in
    on_step c.add-in-Asserted.result (IsForced k found (id ∷ denied)) _ _ _ _ _ _ c.add-in-Asserted.ensures.marks c.add-in-Asserted.ensures.reasons c.add-in-Asserted.ensures.clashes
    (deny_asserted k found denied f.marks.items f.reasons.items id c.args.reason f.clashes (mark_read f.marks.items id c.index.result.now Asserted c.requires c.index.ensures c.in-Asserted.is) gives s)
