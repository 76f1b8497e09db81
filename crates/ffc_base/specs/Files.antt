-- A file that is written: the name under which it was created, and how often a call has failed.
use Rattle.std.specs.Prelude.{ℕ, List}

pub record FileState : Type 0 where
  pub name : List ℕ
  pub faults : ℕ
