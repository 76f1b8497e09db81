use Rattle.std.proofs.Common.{◌+◌, inl, inr, refl, length-set}
use Rattle.ffc_term.proofs.walk.mark_equalities.Goals as goal

pub set-requires : goal.set-requires
set-requires c = c.requires.within (c.args.id + 1) (rw c.in-IteField.is (inl refl))

pub set-requires-in-IteField : goal.set-requires-in-IteField
set-requires-in-IteField c =
    rw (c.set.ensures, length-set) (c.requires.within c.second_equality-second.result (rw c.in-IteField.is (inr c.second_equality-second.ensures)))
