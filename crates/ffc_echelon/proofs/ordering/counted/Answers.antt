use Rattle.std.proofs.Common.{◌++◌, ◌∷◌, [], get_or, map, ap, ◌∙◌, add-one, sym}
use Rattle.std.proofs.lemmas.List.{map_push}
use Rattle.ffc_echelon.specs.Ordering.{numbers_below}
use Rattle.ffc_echelon.proofs.ordering.counted.Goals as goal

pub loop-place-preserved : goal.loop-place-preserved
loop-place-preserved c =
    let i = c.loop-place.place in
    ap (map (λ e. e.1)) c.in_ok-push.ensures.items ∙ map_push (λ e. e.1) c.loop-place.pairs.items (get_or c.args.counts.now i 0, i)
    ∙ ap (λ l. l ++ i ∷ []) c.loop-place.invariant ∙ ap numbers_below (sym (add-one i))
