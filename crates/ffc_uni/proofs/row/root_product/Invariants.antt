use Rattle.std.proofs.Common.{◌≡◌, ◌+◌, length, map, drop}
use Rattle.ffc_uni.specs.Univariate.{SameUnivariate, product_of_roots}
use Rattle.ffc_uni.proofs.row.root_product.Given as goal

abbrev pub invariant-loop-place : goal.invariant-loop-place
invariant-loop-place g l =
    let value = g.F.Field.value in
    let p = g.F.Field.ORDER in
    record {
      product : SameUnivariate p (map value l.out.items) (product_of_roots p (map value (drop l.place l.roots)));
      long : length l.out.items + l.place ≡ length l.roots + 1;
    }
