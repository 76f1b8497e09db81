use Rattle.std.proofs.Common.{◌≡◌, ◌+◌, ◌*◌, ◌%◌, ◌∷◌, true, false, drop, sym, ap, ◌∙◌, subst}
use Rattle.ffc_ring.specs.Monomial.{mono_value}
use Rattle.ffc_ring.specs.Polynomial.{AreTerms, value_sum, poly_value}
use Rattle.ffc_trees.specs.BitLines.{is_among, point_of}
use Rattle.ffc_cktree.proofs.SumLemmas.{left_at}
use Rattle.ffc_cktree.proofs.BitLemmas.{value_taken, value_left}
use Rattle.ffc_cktree.proofs.bits.value_at.Goals as goal
use Rattle.ffc_cktree.proofs.bits.value_at.Goals.{then-is_among, else-is_among}

pub loop-term-preserved : goal.loop-term-preserved
loop-term-preserved g c =
    let value = g.F.Field.value in
    let p = g.F.Field.ORDER in
    let ones = c.args.ones.now in
    let x = c.term-item.result in
    let i = c.loop-term.term-index in
    let rest = drop (i + 1) c.args.written.now in
    let old = value c.loop-term.sum in
    let all = poly_value p (point_of ones) c.args.written.now in
    let left = left_at c.args.written.now i x c.loop-term-test.true c.term-item.is in
    let are : AreTerms (x ∷ rest) = subst AreTerms left c.loop-term.invariant.terms_are in
    let so_far : (old + (x.0 * mono_value (point_of ones) x.1 + value_sum (point_of ones) rest)) % p ≡ all =
    ap (λ ts. (old + value_sum (point_of ones) ts) % p) (sym left) ∙ c.loop-term.invariant.so_far in
    record {
      terms_are = are.1;
      so_far = elim c.if-is_among.branch [
        | then-is_among w ↦
            let here : is_among ones x.1 ≡ true = ap (is_among ones) (sym c.as_slice.ensures) ∙ sym w.if-is_among.ensures in
            ap (λ k. (value k + value_sum (point_of ones) rest) % p) w.sum-is
            ∙ value_taken p x.0 ones x.1 old (value_sum (point_of ones) rest) all are.0 so_far (value w.add-sum.result) here
            (w.add-sum.ensures ∙ ap (λ k. (old + k) % p) (w.of.ensures ∙ ap (λ k. k % p) w.from.ensures))
        | else-is_among w ↦
            let gone : is_among ones x.1 ≡ false = ap (is_among ones) (sym c.as_slice.ensures) ∙ sym w.if-is_among.ensures in
            ap (λ k. (value k + value_sum (point_of ones) rest) % p) w.sum-is
            ∙ value_left p x.0 ones x.1 old (value_sum (point_of ones) rest) all are.0 so_far gone
      ];
    }
