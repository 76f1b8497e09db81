use Rattle.std.proofs.Common.{◌∷◌}
use Rattle.ffc_conjunction.specs.declared.forcing.Mark.TheVariants.{Unmarked, Denied}
use Rattle.ffc_conjunction.specs.Forced.{IsForced}
use Rattle.ffc_conjunction.proofs.ForcedLemmas.{on_step, mark_read, assert_unmarked, assert_denied}
use Rattle.ffc_conjunction.proofs.forcing.Forcing.assert.Goals as goal

pub returns-in-Unmarked-clause-forced : goal.returns-in-Unmarked-clause-forced
returns-in-Unmarked-clause-forced c = λ k found denied s gives.
    let f = c.args.self.now in
    let id = c.args.id in
    on_step c.add.result (IsForced k (id ∷ found) denied) _ _ _ _ _ _ c.add.ensures.marks c.add.ensures.reasons c.add.ensures.clashes
    (assert_unmarked k found denied f.marks.items f.reasons.items id c.args.reason f.clashes c.requires (mark_read f.marks.items id c.index.result.now Unmarked c.requires c.index.ensures c.in-Unmarked.is) gives s)

pub returns-in-Denied-clause-forced : goal.returns-in-Denied-clause-forced
returns-in-Denied-clause-forced c = λ k found denied s gives.
    let f = c.args.self.now in
    let id = c.args.id in
    on_step c.add-in-Denied.result (IsForced k (id ∷ found) denied) _ _ _ _ _ _ c.add-in-Denied.ensures.marks c.add-in-Denied.ensures.reasons c.add-in-Denied.ensures.clashes
    (assert_denied k found denied f.marks.items f.reasons.items id c.args.reason f.clashes c.requires (mark_read f.marks.items id c.index.result.now Denied c.requires c.index.ensures c.in-Denied.is) gives s)
