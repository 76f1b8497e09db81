use Rattle.std.proofs.Common.{ℕ, ◌++◌, ◌∷◌, [], get_or, map, length, sym, ap, ◌∙◌, arith, take_all}
use Rattle.std.proofs.lemmas.List.{map_push, get_or-map}
use Rattle.ffc_echelon.proofs.OrderingLemmas.{gathered_more}
use Rattle.ffc_echelon.proofs.ordering.gathered.Goals as goal

pub loop-column-preserved : goal.loop-column-preserved
loop-column-preserved g c =
    let value = g.F.Field.value in
    let i = c.loop-column.column-index in
    let order = c.args.order.now in
    gathered_more value order c.args.buffer.now c.loop-column.dense.items c.push.new.self.items i c.index-buffer-column.result c.loop-column-test.true
    (let inside = c.requires.inside i 0 c.loop-column-test.true in omega (arith, inside, c.requires.long)) c.index-buffer-column.is c.in_ok-push.ensures.items c.loop-column.invariant

pub returns : goal.returns
returns g c =
    let value = g.F.Field.value in
    let order = c.args.order.now in
    let f : ℕ → ℕ = λ k. get_or (map value c.args.buffer.now) k 0 in
    let x = c.index-buffer-order.result in
    ap (map value) c.in_ok-push-2.ensures.items ∙ map_push value c.loop-column.dense.items x
    ∙ ap (λ l. l ++ value x ∷ []) (c.loop-column.invariant ∙ ap (map f) (take_all c.loop-column.column-index order c.loop-column-test.false))
    ∙ ap (λ n. map f order ++ n ∷ []) (ap value c.index-buffer-order.is ∙ sym (get_or-map value c.args.buffer.now (length order) x 0 (omega (arith, c.requires.long))))
    ∙ sym (map_push f order (length order))
