use Rattle.ffc_cktree.proofs.BitLemmas.{longer_monomial}
use Rattle.ffc_cktree.proofs.bits.is_power.Goals as goal

pub returns-in_default-2 : goal.returns-in_default-2
returns-in_default-2 c = longer_monomial c.args.powers.now c.args.x c.args.exponent c.in_default.len_at_least
