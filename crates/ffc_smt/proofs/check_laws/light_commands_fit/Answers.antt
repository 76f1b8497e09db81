use Rattle.ffc_smt.proofs.LightLemmas.{light_fits}
use Rattle.ffc_smt.proofs.check_laws.light_commands_fit.Goals as goal

pub returns : goal.returns
returns c = λ l s tree d h e room heavy. light_fits l s tree d h e room heavy
