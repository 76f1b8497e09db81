use Rattle.std.specs.Prelude.{[], ◌∷◌}
use Rattle.ffc_trees.specs.Trees.{Open}
use Rattle.ffc_trees.proofs.AlikeLemmas.{stages_read_alike}
use Rattle.ffc_trees.proofs.laws.trees_read_alike.Goals as goal

pub returns-clause-stages : goal.returns-clause-stages
returns-clause-stages c = λ l p s t at tree positive same. stages_read_alike p positive l tree at s t same

pub returns-clause-trees : goal.returns-clause-trees
returns-clause-trees c = λ l p lines others tree positive same. stages_read_alike p positive l tree 0 (Open (lines ∷ [])) (Open (others ∷ [])) (same, tt)
