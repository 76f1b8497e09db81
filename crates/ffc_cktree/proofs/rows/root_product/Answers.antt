use Rattle.std.proofs.Common.{◌≡◌, ◌-◌, ◌%◌, ◌∷◌, [], length, map, drop, ap, sym, ◌∙◌, arith}
use Rattle.ffc_uni.specs.Univariate.{coefficient_at, times, product_of_roots}
use Rattle.ffc_uni.proofs.Coefficients.{products_alike}
use Rattle.ffc_uni.proofs.Rows.{left_before}
use Rattle.ffc_cktree.proofs.RowLemmas.{root_factor}
use Rattle.ffc_cktree.proofs.rows.root_product.Goals as goal

pub loop-place-preserved : goal.loop-place-preserved
loop-place-preserved g c =
    let value = g.F.Field.value in
    let p = g.F.Field.ORDER in
    let roots = c.args.roots.now in
    let place = c.loop-place.place in
    let root = c.index-roots-place.result in
    let old = map value c.loop-place.product.items in
    let rest = product_of_roots p (map value (drop place roots)) in
    let left = left_before roots place root c.loop-place-test.true c.loop-place.auto.place c.index-roots-place.is in
    let factor : map value c.as_slice.result.now ≡ value c.neg.result ∷ value c.of-in-loop-place.result ∷ [] =
    ap (map value) (c.as_slice.ensures.value ∙ c.in_ok-factor.ensures) in
    let by : map value c.as_slice-in-loop-place.result.now ≡ old = ap (map value) c.as_slice-in-loop-place.ensures.value in
    record {
      long = omega (arith, c.in_ok-product.ensures.long, ap length (c.as_slice.ensures.value ∙ c.in_ok-factor.ensures), ap length c.as_slice-in-loop-place.ensures.value, c.loop-place.invariant.long, c.loop-place-test.true);
      so_far = λ k.
          c.in_ok-product.ensures.product k
          ∙ ap (λ l. coefficient_at (times l (map value c.as_slice-in-loop-place.result.now)) k % p) factor
          ∙ ap (λ l. coefficient_at (times (value c.neg.result ∷ value c.of-in-loop-place.result ∷ []) l) k % p) by
          ∙ products_alike p (value c.neg.result ∷ value c.of-in-loop-place.result ∷ []) ((p - value root) ∷ 1 ∷ []) old rest
          (root_factor p (value root) (value c.neg.result) (value c.of-in-loop-place.result) c.neg.ensures c.of-in-loop-place.ensures) c.loop-place.invariant.so_far k
          ∙ ap (λ l. coefficient_at (product_of_roots p (map value l)) k % p) (sym left);
    }
