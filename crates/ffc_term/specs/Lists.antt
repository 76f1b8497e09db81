-- Lists of nodes by number.
use Rattle.std.specs.Prelude.{ℕ, ◌↔◌, List, Contains}

-- two lists have the same numbers, in any order and however often
pub record HaveSameNumbers (xs ys : List ℕ) : Type 0 where
  pub each : (id : ℕ) → Contains xs id ↔ Contains ys id
