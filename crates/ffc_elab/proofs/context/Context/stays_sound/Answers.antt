use Rattle.ffc_elab.proofs.ContextLemmas.{context_is_sound}
use Rattle.ffc_elab.proofs.context.Context.stays_sound.Goals as goal

pub returns : goal.returns
returns c = context_is_sound c.args.self.now
