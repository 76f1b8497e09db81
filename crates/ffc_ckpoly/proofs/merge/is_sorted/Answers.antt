use Rattle.std.proofs.Common.{◌≡◌, ◌+◌, ◌-◌, drop, subst, arith}
use Rattle.ffc_ckpoly.specs.Sorted.{residues, IsSorted}
use Rattle.ffc_ckpoly.proofs.merge.is_sorted.Goals as goal

pub loop-place-preserved : goal.loop-place-preserved
loop-place-preserved g c =
    let value = g.F.Field.value in
    let p = g.F.Field.ORDER in
    let terms = c.args.terms.now in
    let place = c.loop-place.place in
    let next : place ≡ place - 1 + 1 = omega (arith, c.loop-place-test.true) in
    c.goes_first.ensures c.if-not-goes_first.false c.requires (subst (λ k. IsSorted p (residues value (drop k terms))) next c.loop-place.invariant)
