use Rattle.std.proofs.Common.{◌+◌, ◌∷◌, ◌++◌, [], List, length, take, take_all, sym, subst, refl, add-one}
use Rattle.std.proofs.lemmas.Option.{slice_get_read}
use Rattle.ffc_echelon.specs.Vectors.{Coordinates}
use Rattle.ffc_echelon.specs.Ordering.{AreReordered}
use Rattle.ffc_echelon.proofs.OrderingLemmas.{reordered_more, reordered_length}
use Rattle.ffc_echelon.proofs.ordering.reordered_all.Goals as goal

pub loop-vector-preserved : goal.loop-vector-preserved
loop-vector-preserved g c =
    let p = g.F.Field.ORDER in
    let order = c.args.order.now in
    let vectors = c.args.vectors.now in
    let i = c.loop-vector.vector-index in
    let v : Coordinates = c.vector-item.result in
    let r : Coordinates = c.in_ok-reordered.field-0 in
    subst (λ (l : List Coordinates). AreReordered p order (take (i + 1) vectors) l) (sym c.in_ok-push.ensures.items)
    (subst (λ k. AreReordered p order (take k vectors) (c.loop-vector.all.items ++ r ∷ [])) (sym (add-one i))
    (reordered_more p order vectors c.loop-vector.all.items i v r (slice_get_read vectors (length vectors) i v refl c.loop-vector-test.true c.vector-item.is) c.loop-vector.invariant c.in_ok-reordered.ensures))

pub returns-clause-all : goal.returns-clause-all
returns-clause-all g c =
    let vectors = c.args.vectors.now in
    subst (λ (l : List Coordinates). AreReordered g.F.Field.ORDER c.args.order.now l c.loop-vector.all.items) (take_all c.loop-vector.vector-index vectors c.loop-vector-test.false) c.loop-vector.invariant

pub returns-clause-long : goal.returns-clause-long
returns-clause-long g c =
    let vectors = c.args.vectors.now in
    reordered_length g.F.Field.ORDER c.args.order.now vectors c.loop-vector.all.items
    (subst (λ (l : List Coordinates). AreReordered g.F.Field.ORDER c.args.order.now l c.loop-vector.all.items) (take_all c.loop-vector.vector-index vectors c.loop-vector-test.false) c.loop-vector.invariant)
