use Rattle.std.proofs.Common.{◌≡◌, ◌-◌, ◌≤◌, ◌++◌, ◌%◌, length, map, take, replicate, vec_len, ap, ◌∙◌, refl, arith, mod-eq_of_lt}
use Rattle.std.proofs.lemmas.List.{take_all}
use Rattle.ffc_uni.specs.Univariate.{coefficient_at, plus, times}
use Rattle.ffc_uni.proofs.Coefficients.{plus_alike}
use Rattle.ffc_uni.proofs.Rows.{written_back, padded}
use Rattle.ffc_cktree.proofs.RowLemmas.{plus_turned}
use Rattle.ffc_cktree.proofs.rows.product_and_rest.Goals as goal

pub returns-clause-sum : goal.returns-clause-sum
returns-clause-sum g c =
    let value = g.F.Field.value in
    let p = g.F.Field.ORDER in
    let rest = c.args.rest.now in
    let long = c.max.result in
    let none = c.of.result in
    let room = long - vec_len c.extend_from_slice.new.self in
    let product = times (map value c.args.a.now) (map value c.args.b.now) in
    let kept = written_back c.resize.new.self.len c.add_product.new.out c.resize.new.self.items (c.add_product.auto.out ∙ c.as_mut_slice.ensures.len) in
    let zero_is : value none ≡ 0 = c.of.ensures ∙ mod-eq_of_lt (omega (arith, g.met.F.Field.prime.least)) in
    let within : length rest ≤ long = omega (arith, c.max.ensures) in
    let filled : c.as_mut_slice.result.now ≡ rest ++ replicate room none =
    c.as_mut_slice.ensures.value ∙ c.in_ok-resize.ensures.items
    ∙ ap (λ l. take long l ++ replicate room none) (c.in_ok-extend_from_slice.ensures.items ∙ ap (λ l. l ++ rest) c.new-out.ensures.items)
    ∙ ap (λ l. l ++ replicate room none) (take_all long rest within) in
    λ k.
    ap (λ l. coefficient_at (map value l) k % p) kept
    ∙ c.add_product.ensures k
    ∙ ap (λ l. coefficient_at (plus (map value l) product) k % p) filled
    ∙ plus_alike p (map value (rest ++ replicate room none)) (map value rest) product product (padded value p rest room none zero_is) (λ j. refl) k
    ∙ plus_turned p (map value rest) product k
