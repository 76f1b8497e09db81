use Rattle.ffc_trees.proofs.FirstLineLemmas.{lemma_is_true}
use Rattle.ffc_trees.proofs.laws.lemmas_are_sound.Goals as goal

pub returns : goal.returns
returns c = lemma_is_true
