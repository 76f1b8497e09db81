use Rattle.std.proofs.Common.{refl}
use Rattle.ffc_term.specs.Measuring.{degrees, lengths}
use Rattle.ffc_term.specs.Nodes.{sorts}
use Rattle.ffc_rules.specs.Cones.{reached, cone}
use Rattle.ffc_bounds.specs.Conjunctions.{asserted_from, asserted, is_conjunction}
use Rattle.ffc_bounds.specs.Linear.{is_linear, is_linear_within}
use Rattle.ffc_bounds.proofs.rows.linear_checks.Goals as goal

pub returns : goal.returns
unfolding degrees lengths sorts reached cone asserted_from asserted is_conjunction is_linear is_linear_within
returns c = record { equation = refl; equation_spent = refl; disequation = refl; disequation_spent = refl; parts = refl; equal = refl; unequal = refl; nested = refl; nested_spent = refl; or = refl; few_values = refl; three_values = refl; three_equal = refl; three = refl; three_spent = refl; clashing = refl; clashing_spent = refl; twice_negated = refl; boolean = refl; not_boolean = refl; false_node = refl; square = refl; long = refl; short = refl; two_fields = refl; ite = refl; nothing = refl }
