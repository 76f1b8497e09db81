use Rattle.std.proofs.Common.{◌<◌, get_or, sym, subst}
use Rattle.ffc_term.proofs.WalkLemmas.{Marks-more}
use Rattle.ffc_term.proofs.walk.mark_all.Goals as goal

pub loop-id-preserved : goal.loop-id-preserved
loop-id-preserved c =
    let i = c.loop-id.id-index in
    let ids = c.args.ids.now in
    rw c.set.ensures (Marks-more ids c.args.marks.now c.loop-id.marks i c.loop-id-test.true c.loop-id.invariant (subst (λ n. get_or ids i 0 < n) (sym c.loop-id.invariant.long) (c.requires i 0 c.loop-id-test.true)))
