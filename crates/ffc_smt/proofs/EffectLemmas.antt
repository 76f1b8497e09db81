-- A command that keeps the model changes nothing that the model speaks of.
use Rattle.std.proofs.Common.{◌≡◌, refl}
use Rattle.ffc_smt.specs.Terms.{Command, Declare, DefineSort, Define, Assert, Push, Pop, ResetAssertions, Reset}
use Rattle.ffc_smt.specs.Scopes.{State}
use Rattle.ffc_smt.specs.Answering.{Keeps, effect_of, KeepsScopes}

pub keeping_keeps : (c : Command) (s : State) → effect_of c ≡ Keeps → KeepsScopes c s
keeping_keeps Reset s e = cc
keeping_keeps (Declare name u) s e = cc
keeping_keeps (DefineSort name u) s e = cc
keeping_keeps (Define name ps u t) s e = cc
keeping_keeps (Assert label t) s e = cc
keeping_keeps (Push n) s e = cc
keeping_keeps (Pop n) s e = cc
keeping_keeps ResetAssertions s e = cc
keeping_keeps _ s e = record { levels = refl; base = refl; constants = refl }
