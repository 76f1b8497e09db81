use Rattle.std.proofs.Common.{refl}
use Rattle.ffc_trees.specs.Normal.{normal}
use Rattle.ffc_trees.specs.TreeLines.{closes}
use Rattle.ffc_trees.specs.BitLines.{common_divisor, bits_line}
use Rattle.ffc_trees.specs.Trees.{read_from}
use Rattle.ffc_trees.proofs.rows.bits.Goals as goal

pub returns-clause-choices : goal.returns-clause-choices
unfolding normal closes common_divisor bits_line read_from
returns-clause-choices c = record { never_five = refl; perhaps_three = refl; even = refl; high = refl; low = refl; perhaps_one = refl; both = refl; both_possible = refl; nothing = refl; something = refl; odd = refl; perhaps_six = refl; perhaps_four = refl; no_multiple = refl; never_two = refl; never_less = refl; tree = refl; tree_broken = refl }

pub returns-clause-parts : goal.returns-clause-parts
unfolding normal common_divisor bits_line
returns-clause-parts c = record { residue = refl; no_residue = refl; other_variable = refl; not_in_line = refl; linear = refl; turned_line = refl; constant_line = refl; product_line = refl; square_line = refl; turned = refl; one_missing = refl; one_more = refl; twice = refl; other_sign = refl; cube = refl; with_constant = refl; no_square = refl; zero_line = refl; below = refl; reaches = refl; above = refl; reaches_down = refl; too_wide = refl; less = refl; too_wide_down = refl; more = refl; across = refl }

pub returns-clause-limits : goal.returns-clause-limits
unfolding normal common_divisor bits_line
returns-clause-limits c = record { no_line = refl; no_bit = refl; many_choices = refl; twelve_choices = refl; too_high = refl; high = refl; zero_too_high = refl; within = refl; products = refl; degree = refl; terms = refl; choices = refl; long = refl; too_long = refl; twice_chosen = refl; too_often = refl }
