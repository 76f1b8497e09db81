use Rattle.std.proofs.Common.{[], ◌∷◌, ◌++◌, sym, ap, ◌∙◌}
use Rattle.ffc_lemmatree.proofs.Steps.{range_next}
use Rattle.ffc_lemmatree.proofs.reasons.empty_by.Goals as goal

pub loop-hint-preserved : goal.loop-hint-preserved
loop-hint-preserved c = c.in_ok-push.ensures.items ∙ ap (λ v. v ++ c.loop-hint.hint ∷ []) c.loop-hint.invariant ∙ sym (range_next c.loop-hint.hint)
