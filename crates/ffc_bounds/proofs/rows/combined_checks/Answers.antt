use Rattle.std.proofs.Common.{refl}
use Rattle.ffc_term.specs.Measuring.{degrees}
use Rattle.ffc_rules.specs.Cones.{reached, cone}
use Rattle.ffc_bounds.proofs.rows.combined_checks.Goals as goal

pub returns : goal.returns
unfolding degrees reached cone
returns c = record { degrees = refl; variables = refl; columns_of_two = refl; rows_of_two = refl; rows_of_one = refl; product = refl; gadget_literals = refl; gadget_degrees = refl; gadget_variables = refl; gadget = refl; gadget_more = refl }
