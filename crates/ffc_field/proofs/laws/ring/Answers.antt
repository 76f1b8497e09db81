use Rattle.std.proofs.Common.{arith}
use Rattle.ffc_field.proofs.FieldLaws.{commutative_ring}
use Rattle.ffc_field.proofs.laws.ring.Goals as goal

pub returns : goal.returns
returns g c = commutative_ring g.F.Field.ORDER (omega (arith, g.met.F.Field.prime.least))
