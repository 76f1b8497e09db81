use Rattle.ffc_field.proofs.FieldLaws.{powers}
use Rattle.ffc_field.proofs.laws.powers.Goals as goal

pub returns : goal.returns
returns g c = powers g.F.Field.ORDER g.met.F.Field.prime.least
