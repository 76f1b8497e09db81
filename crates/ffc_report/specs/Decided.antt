-- When each check of a script is decided: over the definitions of the checker's top call.
use Rattle.std.specs.Prelude.{◌≡◌, ℕ, Bool, List, [], ◌∷◌, ◌++◌}
use Rattle.ffc_rules.specs.Judging.{Accepted, Counts, judge}
use Rattle.ffc_verify.specs.Status.{AllHaveEntries}

-- The checker accepts the certificate for the script, of version 3 only with bits, so that each check has an entry that is true of
-- it, and no entry leaves its check undecided.
pub record IsDecided (bits : Bool) (script certificate : List ℕ) : Type 0 where
  pub means : AllHaveEntries bits script certificate
  pub counts : Counts
  pub accepted : judge bits script certificate ≡ Accepted counts
  pub none_unknown : counts.unknown ≡ 0

-- a text that ends with a space, the digit 0 and a line feed
abbrev pub EndsInZero : List ℕ → Type 0
EndsInZero text = (front : List ℕ) × (text ≡ front ++ (32 ∷ 48 ∷ 10 ∷ []))
