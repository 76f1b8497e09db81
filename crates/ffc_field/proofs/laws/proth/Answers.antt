use Rattle.ffc_field.specs.Proth.{proth}
use Rattle.ffc_field.proofs.laws.proth.Goals as goal

pub returns : goal.returns
returns c = proth
