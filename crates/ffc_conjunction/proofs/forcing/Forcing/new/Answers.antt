use Rattle.std.proofs.Common.{◌≡◌, [], replicate, false, sym, subst, rules}
use Rattle.ffc_conjunction.specs.declared.forcing.Mark.TheVariants.{Unmarked}
use Rattle.ffc_conjunction.specs.Forced.{IsForced}
use Rattle.ffc_conjunction.proofs.ForcedLemmas.{IsForced-start}
use Rattle.ffc_conjunction.proofs.forcing.Forcing.new.Goals as goal

pub returns-clause-nothing : goal.returns-clause-nothing
returns-clause-nothing c = λ k long.
    let marks : c.in_ok-vec.field-0.items ≡ replicate c.args.nodes Unmarked = c.in_ok-vec.ensures.items_if_clones_equal (λ y h. search rules) in
    subst (λ rs. IsForced k [] [] c.in_ok-vec.field-0.items rs false) (sym c.new.ensures.items)
    (subst (λ ms. IsForced k [] [] ms [] false) (sym marks) (IsForced-start k c.args.nodes long))
