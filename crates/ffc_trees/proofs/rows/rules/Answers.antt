use Rattle.std.proofs.Common.{refl}
use Rattle.ffc_term.specs.Nodes.{sorts}
use Rattle.ffc_uni.specs.Chains.{digits_of}
use Rattle.ffc_trees.specs.Normal.{normal}
use Rattle.ffc_trees.specs.NodePolynomials.{node_polys}
use Rattle.ffc_trees.specs.TreeLines.{combined, combine_line, fermat_line, chain_line, step_line, root_line, split_line, values_line, closes}
use Rattle.ffc_trees.specs.Trees.{read_from}
use Rattle.ffc_trees.specs.FirstLines.{first_line}
use Rattle.ffc_trees.proofs.rows.rules.Goals as goal

pub returns : goal.returns
unfolding sorts digits_of normal node_polys combined combine_line fermat_line chain_line step_line root_line split_line values_line closes read_from first_line
returns c = record { missing_line = refl; too_high = refl; no_residue = refl; residue = refl; chain_of_no_line = refl; chain_in_two = refl; chain_in_other = refl; chain_too_short = refl; chain = refl; step_past_residue = refl; split_of_no_line = refl; no_cases = refl; root_past_residue = refl; other_root = refl; other_variable = refl; root_left_out = refl; not_monic = refl; second_case = refl; all_values = refl; other_count = refl; many_values = refl; constant = refl; zero_line = refl; no_constant = refl; no_line = refl; no_end = refl; clause = refl; step_alone = refl; chain_cut = refl }
