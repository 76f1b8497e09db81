use Rattle.std.proofs.Common.{refl}
use Rattle.ffc_term.specs.Nodes.{sorts}
use Rattle.ffc_uni.specs.Chains.{digits_of}
use Rattle.ffc_trees.specs.Normal.{normal}
use Rattle.ffc_trees.specs.NodePolynomials.{node_polys}
use Rattle.ffc_trees.specs.TreeLines.{combined, combine_line, fermat_line, chain_line, step_line, root_line, split_line, values_line, closes}
use Rattle.ffc_trees.specs.Trees.{read_from}
use Rattle.ffc_trees.specs.FirstLines.{first_line}
use Rattle.ffc_trees.proofs.rows.worked_trees.Goals as goal

pub returns : goal.returns
unfolding sorts digits_of normal node_polys combined combine_line fermat_line chain_line step_line root_line split_line values_line closes read_from first_line
returns c = record { product = refl; product_less = refl; product_past = refl; chain = refl; chain_changed = refl; splits = refl; splits_without_line = refl }
