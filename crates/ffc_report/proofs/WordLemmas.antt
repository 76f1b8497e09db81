-- What the checker's arguments say of bits.
use Rattle.std.proofs.Common.{◌≡◌, true, false, [], ◌∷◌, codes, refl}
use Rattle.clap.proofs.OnLiterals.{clap_on_literals}
use Rattle.ffc_verify.specs.Arguments.{wants_bits}

pub bits_are_wanted : wants_bits (codes "ffcheck" ∷ codes "certificate" ∷ codes "--bits" ∷ []) ≡ true
unfolding clap_on_literals
bits_are_wanted = refl

pub no_bits_are_wanted : wants_bits (codes "ffcheck" ∷ codes "certificate" ∷ []) ≡ false
unfolding clap_on_literals
no_bits_are_wanted = refl
