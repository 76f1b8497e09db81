-- The least of some numbers that is not listed.
use Rattle.std.specs.Prelude.{◌≡◌, ℕ, ◌<◌, true, false, List}
use Rattle.ffc_rules.specs.Cones.{is_listed}

pub record IsLeastOutside (numbers listed : List ℕ) (k : ℕ) : Type 0 where
  pub among : is_listed numbers k ≡ true
  pub outside : is_listed listed k ≡ false
  pub least : (j : ℕ) → j < k → is_listed numbers j ≡ true → is_listed listed j ≡ true

-- none of them is left out
abbrev pub AreListed : List ℕ → List ℕ → Type 0
AreListed numbers listed = (k : ℕ) → is_listed numbers k ≡ true → is_listed listed k ≡ true
