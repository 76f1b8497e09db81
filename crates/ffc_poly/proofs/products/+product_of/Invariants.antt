use Rattle.std.proofs.Common.{◌-◌}
use Rattle.ffc_poly.proofs.products.+product_of.Given as goal

abbrev pub decreases-product_of : goal.decreases-product_of
decreases-product_of g l = l.to - l.from
