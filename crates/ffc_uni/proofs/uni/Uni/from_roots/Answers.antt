use Rattle.std.proofs.Common.{◌≡◌, ◌+◌, ◌<◌, length, map, ◌∙◌, arith}
use Rattle.ffc_uni.specs.Univariate.{SameUnivariate, product_of_roots}
use Rattle.ffc_uni.proofs.RootProducts.{product_is_long}
use Rattle.ffc_uni.proofs.Rows.{length-residues}
use Rattle.ffc_uni.proofs.uni.Uni.from_roots.Goals as goal

pub returns-clause-long : goal.returns-clause-long
returns-clause-long g c =
    let value = g.F.Field.value in
    let p = g.F.Field.ORDER in
    let roots = map value c.args.roots.now in
    let r = c.from_row.result in
    let same : SameUnivariate p r (product_of_roots p roots) = λ k. c.from_row.ensures.same k ∙ c.in_ok-root_product.ensures.product k in
    let long : length roots < length r = product_is_long p roots r g.met.F.Field.prime.least same in
    let count : length roots ≡ length c.args.roots.now = length-residues value c.args.roots.now in
    omega (arith, c.from_row.ensures.short, c.in_ok-root_product.ensures.long)
