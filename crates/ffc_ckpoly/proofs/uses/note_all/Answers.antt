use Rattle.std.proofs.Common.{◌∷◌, [], get_or, sym, subst}
use Rattle.std.proofs.lemmas.List.{take_more}
use Rattle.ffc_ckpoly.specs.Uses.{AreNoted}
use Rattle.ffc_ckpoly.proofs.UseLemmas.{more_noted}
use Rattle.ffc_ckpoly.proofs.uses.note_all.Goals as goal

pub loop-id-preserved : goal.loop-id-preserved
loop-id-preserved g c =
    let known = c.args.known.now in
    let old = c.args.waiting.now in
    let new = c.note_one.new.waiting in
    let ids = c.args.ids.now in
    let i = c.loop-id.id-index in
    subst (AreNoted c.args.table.now known old new c.args.factors) (sym (take_more ids i 0 c.loop-id-test.true))
    (more_noted c.args.table.now known old c.loop-id.waiting new c.args.factors _ (get_or ids i 0 ∷ []) c.loop-id.invariant c.in_ok-note_one.ensures)
