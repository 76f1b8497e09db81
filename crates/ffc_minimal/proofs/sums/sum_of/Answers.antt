use Rattle.std.proofs.Common.{◌≡◌, ℕ, ◌<◌, ◌++◌, length, subst, arith, IfSome}
use Rattle.ffc_ring.specs.Polynomial.{Terms, SamePolynomial, product}
use Rattle.ffc_line.specs.Lines.{Parts}
use Rattle.ffc_minimal.proofs.SumLemmas.{sum_next, before_next}
use Rattle.ffc_minimal.proofs.sums.sum_of.Goals as goal

pub loop-part-preserved : goal.loop-part-preserved
loop-part-preserved g c =
    let p = g.F.Field.ORDER in
    let ts : Parts = c.args.parts.now in
    let i = c.loop-part.part-index in
    let t : ℕ × Terms = c.part-item.result in
    let line = c.index-lines-number.result in
    let sum : Terms = c.loop-part.sum in
    let within : t.0 < length c.args.lines.now = omega (arith, c.if-number-lines.false) in
    let more : SamePolynomial p c.in-Some.next (sum ++ product t.1 line.poly) =
    subst (λ o. IfSome o (λ r. SamePolynomial p r (sum ++ product t.1 line.poly))) c.in-Some.is c.in_ok-next.ensures in
    record {
      sum = sum_next p c.args.lines.now ts i t line sum c.in-Some.next c.loop-part-test.true c.part-item.is within c.index-lines-number.is more c.loop-part.invariant.sum;
      before = before_next (length c.args.lines.now) ts i t c.loop-part-test.true c.part-item.is within c.loop-part.invariant.before;
    }
