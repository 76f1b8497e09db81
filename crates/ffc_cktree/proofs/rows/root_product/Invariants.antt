use Rattle.std.proofs.Common.{◌≡◌, ◌+◌, length, map, drop}
use Rattle.ffc_uni.specs.Univariate.{SameUnivariate, product_of_roots}
use Rattle.ffc_cktree.proofs.rows.root_product.Given as goal

abbrev pub invariant-loop-place : goal.invariant-loop-place
invariant-loop-place g l =
    let value = g.F.Field.value in
    record {
      long : length l.product.items + l.place ≡ length l.roots + 1;
      so_far : SameUnivariate g.F.Field.ORDER (map value l.product.items) (product_of_roots g.F.Field.ORDER (map value (drop l.place l.roots)));
    }
