-- What a vector has when a call that appends to it has failed.
use Rattle.std.specs.Prelude.{◌≡◌, ℕ, List, ◌++◌}

-- something was appended, or nothing
pub record Extends (old new : List ℕ) : Type 0 where
  pub more : List ℕ
  pub appended : new ≡ old ++ more
