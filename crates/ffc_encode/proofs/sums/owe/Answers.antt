use Rattle.std.proofs.Common.{◌∷◌, subst, heap_items}
use Rattle.std.specs.List.Sorted.{IsPermutation}
use Rattle.ffc_encode.specs.Waiting.{owed_of}
use Rattle.ffc_encode.proofs.sums.owe.Goals as goal

pub returns : goal.returns
returns g c =
    subst (λ w. IsPermutation (owed_of c.args.node w ∷ heap_items c.args.waiting.now) (heap_items c.push.new.self)) c.residue.ensures.value c.in_ok-push.ensures.permutation
