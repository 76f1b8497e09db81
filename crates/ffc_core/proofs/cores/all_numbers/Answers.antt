use Rattle.std.proofs.Common.{◌++◌, ◌∷◌, [], sym, ap, ◌∙◌}
use Rattle.ffc_core.proofs.MarkLemmas.{range_next}
use Rattle.ffc_core.proofs.cores.all_numbers.Goals as goal

pub loop-k-preserved : goal.loop-k-preserved
loop-k-preserved c = c.in_ok-push.ensures.items ∙ ap (λ v. v ++ c.loop-k.k ∷ []) c.loop-k.invariant ∙ sym (range_next c.loop-k.k)
