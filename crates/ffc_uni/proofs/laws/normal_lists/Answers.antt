use Rattle.ffc_uni.proofs.ValueLemmas.{one_normal}
use Rattle.ffc_uni.proofs.laws.normal_lists.Goals as goal

pub returns : goal.returns
returns c = one_normal
