use Rattle.std.proofs.Common.{length, sym, ap, ◌∙◌}
use Rattle.ffc_conjunction.proofs.WalkLemmas.{walk_start}
use Rattle.ffc_conjunction.proofs.walk.Walk.new.Goals as goal

pub returns-clause-walk : goal.returns-clause-walk
returns-clause-walk c = λ k same active.
    walk_start k c.args.active.now _ c.new-2.ensures.items c.new-3.ensures.items
    (c.in_ok-assert_active.ensures.forced k active (c.in_ok-forcing.ensures.nothing k (ap length same ∙ sym c.len.ensures.count)))
