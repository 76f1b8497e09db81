use Rattle.ffc_poly.proofs.Clauses.{zero_test}
use Rattle.ffc_poly.proofs.poly.Poly.is_zero.Goals as goal

pub returns : goal.returns
returns g c = zero_test c.args.self.now c.len.result c.len.ensures.value
