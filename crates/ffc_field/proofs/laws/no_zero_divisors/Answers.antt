use Rattle.ffc_field.proofs.FieldLaws.{zero_products}
use Rattle.ffc_field.proofs.laws.no_zero_divisors.Goals as goal

pub returns : goal.returns
returns g c = zero_products g.F.Field.ORDER g.met.F.Field.prime
