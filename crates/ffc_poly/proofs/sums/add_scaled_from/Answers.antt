use Rattle.std.proofs.Common.{◌≡◌, ◌++◌, drop, sym, ap, ◌∙◌, subst, inl, inr, arith}
use Rattle.std.specs.Prelude.{slice_range}
use Rattle.ffc_mono.specs.declared.mono.TheConstants.{DEGREE_LIMIT}
use Rattle.ffc_ring.specs.Polynomial.{SamePolynomial, scaled}
use Rattle.ffc_poly.specs.Ordered.{IsOrdered, multiplied}
use Rattle.ffc_poly.proofs.Merging.{merged, IsOrdered-merged, SamePolynomial-merged}
use Rattle.ffc_poly.proofs.MergingSteps.{finished}
use Rattle.ffc_poly.proofs.sums.add_scaled_from.Goals as goal
use Rattle.ffc_poly.proofs.sums.add_scaled_from.Goals.{then-loop-i-test+else-j-len, else-loop-i-test}

pub returns : goal.returns
returns g c =
    let value = g.F.Field.value in
    let p = g.F.Field.ORDER in
    let cmp = g.O.MonoOrder.cmp in
    let prime = g.met.F.Field.prime in
    let laws = g.met.O.MonoOrder.laws in
    let k = value c.args.c in
    let a = c.args.a.now in
    let b = c.args.b.now in
    let at = c.loop-i in
    let x = drop c.args.from_a a in
    let y = drop c.args.from_b b in
    let ends = finished p cmp k a b at.i at.j at.out c.extend_from.new.self c.extend_multiple.new.self (merged p cmp k x y)
    (c.in_ok-extend_from.ensures ∙ ap (λ n. at.out ++ slice_range a at.i n) c.len-2.ensures)
    (c.in_ok-extend_multiple.ensures ∙ ap (λ n. c.extend_from.new.self ++ multiplied p k (slice_range b at.j n)) c.len-3.ensures) in
    let out : c.extend_multiple.new.self ≡ merged p cmp k x y = elim c.loop-i-test.branch [
      | then-loop-i-test+else-j-len w ↦ ends (inr (omega (arith, w.if-j-len.false, w.len-in-loop-i.ensures))) at.invariant.so_far
      | else-loop-i-test w ↦ ends (inl (omega (arith, w.loop-i-test.false, c.len.ensures))) at.invariant.so_far
    ] in
    record {
      ordered = subst (IsOrdered p cmp DEGREE_LIMIT) (sym out) (IsOrdered-merged p prime cmp laws DEGREE_LIMIT k c.requires.c_is (g.met.F.Field.below c.args.c) x y c.requires.a_is c.requires.b_is);
      same = subst (λ m. SamePolynomial p m (x ++ scaled k y)) (sym out) (SamePolynomial-merged p cmp laws k x y);
    }
