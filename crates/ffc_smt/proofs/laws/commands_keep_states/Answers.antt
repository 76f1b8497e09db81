use Rattle.ffc_smt.proofs.SoundStates.{first_is_sound, scope_is_sound, next_is_sound}
use Rattle.ffc_smt.proofs.laws.commands_keep_states.Goals as goal

pub returns : goal.returns
returns c = record { first = first_is_sound; scope = λ s h. scope_is_sound s h; next = λ l s tree d small h e. next_is_sound l s tree d small h e }
