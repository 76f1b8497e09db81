use Rattle.ffc_field.proofs.FieldLaws.{inverses}
use Rattle.ffc_field.proofs.laws.inverses.Goals as goal

pub returns : goal.returns
returns g c = inverses g.F.Field.ORDER g.met.F.Field.prime
