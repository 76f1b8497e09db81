use Rattle.ffc_field.proofs.FieldLaws.{obeys_fermat}
use Rattle.ffc_field.proofs.laws.fermat.Goals as goal

pub returns-clause-order : goal.returns-clause-order
returns-clause-order g c = obeys_fermat g.F.Field.ORDER g.met.F.Field.prime

pub returns-clause-element : goal.returns-clause-element
returns-clause-element g c =
    (obeys_fermat g.F.Field.ORDER g.met.F.Field.prime).residues (g.F.Field.value c.args.x) (g.met.F.Field.below c.args.x)
