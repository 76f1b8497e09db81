use Rattle.std.proofs.Common.{◌≡◌, ◌+◌, ◌-◌, ◌++◌, ◌∷◌, ◌%◌, [], length, map, drop, sym, ap, ◌∙◌, arith, length-append}
use Rattle.std.proofs.lemmas.List.{map-append}
use Rattle.ffc_uni.specs.Univariate.{coefficient_at, times, product_of_roots}
use Rattle.ffc_uni.proofs.Coefficients.{times_alike_second}
use Rattle.ffc_uni.proofs.Rows.{left_before, written_back}
use Rattle.ffc_uni.proofs.row.root_product.Goals as goal

pub loop-place-preserved : goal.loop-place-preserved
loop-place-preserved g c =
    let value = g.F.Field.value in
    let p = g.F.Field.ORDER in
    let roots = c.args.roots.now in
    let place = c.loop-place.place in
    let root = c.index-roots-place.result in
    let new = c.times_root-top.new.out in
    let top = c.times_root-top.result in
    let factor = (p - value root) ∷ 1 ∷ [] in
    let kept = written_back c.loop-place.out.len new c.loop-place.out.items (c.times_root-top.auto.out ∙ c.as_mut_slice.ensures.len) in
    let left = left_before roots place root c.loop-place-test.true c.loop-place.auto.place c.index-roots-place.is in
    let pushed : map value c.push-in-loop-place.new.self.items ≡ map value new ++ value top ∷ [] =
    ap (map value) (c.in_ok-push-2.ensures.items ∙ ap (λ l. l ++ top ∷ []) kept) ∙ map-append value new (top ∷ []) in
    let longer : length c.push-in-loop-place.new.self.items ≡ length new + 1 =
    ap length (c.in_ok-push-2.ensures.items ∙ ap (λ l. l ++ top ∷ []) kept) ∙ length-append new (top ∷ []) in
    record {
      product = λ k.
          ap (λ l. coefficient_at l k % p) pushed
          ∙ c.times_root-top.ensures k
          ∙ ap (λ l. coefficient_at (times factor (map value l)) k % p) c.as_mut_slice.ensures.value
          ∙ times_alike_second p factor (map value c.loop-place.out.items) (product_of_roots p (map value (drop place roots))) c.loop-place.invariant.product k
          ∙ ap (λ l. coefficient_at (product_of_roots p (map value l)) k % p) (sym left);
      long = omega (arith, c.loop-place.invariant.long, c.times_root-top.auto.out, ap length c.as_mut_slice.ensures.value);
    }
