use Rattle.std.proofs.Common.{eq-eqb}
use Rattle.ffc_mono.proofs.MaskLemmas.{masked_none}
use Rattle.ffc_mono.proofs.powers.may_divide.Goals as goal

pub returns : goal.returns
returns c = λ h. eq-eqb _ 0 (masked_none c.args.first c.args.second c.ranges.first.fits c.ranges.second.fits h)
