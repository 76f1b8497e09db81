use Rattle.std.proofs.Common.{refl}
use Rattle.ffc_term.specs.Nodes.{sorts}
use Rattle.ffc_uni.specs.Chains.{digits_of}
use Rattle.ffc_trees.specs.Normal.{normal}
use Rattle.ffc_trees.specs.NodePolynomials.{node_polys}
use Rattle.ffc_trees.specs.TreeLines.{combined, combine_line, fermat_line, chain_line, step_line, root_line, split_line, values_line, closes}
use Rattle.ffc_trees.specs.Trees.{read_from}
use Rattle.ffc_trees.specs.FirstLines.{first_line}
use Rattle.ffc_trees.proofs.rows.limits.Goals as goal

pub returns : goal.returns
unfolding sorts digits_of normal node_polys combined combine_line fermat_line chain_line step_line root_line split_line values_line closes read_from first_line
returns c = record { real = refl; products = refl; products_passed = refl; zero_counts = refl; degree = refl; degree_passed = refl; terms_passed = refl; written = refl; written_passed = refl; terms = refl; two_terms_passed = refl; quotient = refl; quotient_passed = refl; too_long_first = refl; remainder = refl; remainder_passed = refl }
