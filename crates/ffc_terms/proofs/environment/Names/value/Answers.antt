use Rattle.ffc_terms.proofs.SlotLemmas.{value_at}
use Rattle.ffc_terms.proofs.environment.Names.value.Goals as goal

pub returns : goal.returns
returns g c = value_at c.self.inside.entries.items c.args.self.now c.args.slot c.index.result.now c.self.view_is c.requires c.index.ensures
