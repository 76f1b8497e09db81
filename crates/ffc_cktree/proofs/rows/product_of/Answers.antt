use Rattle.std.proofs.Common.{◌≡◌, ◌%◌, [], map, ap, ◌∙◌}
use Rattle.std.proofs.lemmas.Result.{IfOk-weaker}
use Rattle.ffc_uni.specs.Univariate.{coefficient_at, SameUnivariate, plus, times}
use Rattle.ffc_cktree.proofs.RowLemmas.{plus_turned}
use Rattle.ffc_cktree.proofs.rows.product_of.Goals as goal

pub returns-clause-product : goal.returns-clause-product
returns-clause-product g c =
    let value = g.F.Field.value in
    let p = g.F.Field.ORDER in
    let product = times (map value c.args.a.now) (map value c.args.b.now) in
    let none : map value c.as_slice.result.now ≡ [] = ap (map value) (c.as_slice.ensures.value ∙ c.new-none.ensures.items) in
    IfOk-weaker c.product_and_rest.result _ (λ v. SameUnivariate p (map value v.items) product)
    (λ v h k. h k ∙ ap (λ l. coefficient_at (plus product l) k % p) none ∙ plus_turned p product [] k) c.product_and_rest.ensures.sum
