use Rattle.ffc_combination.proofs.SideLemmas.{ordered_normal}
use Rattle.ffc_combination.proofs.generators.minus.Goals as goal

pub returns-in-Ok-clause-normal : goal.returns-in-Ok-clause-normal
returns-in-Ok-clause-normal g c = ordered_normal g.F.Field.ORDER 1024 c.in-Ok.found c.len-terms.ensures.ordered
