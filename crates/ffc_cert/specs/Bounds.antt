-- What keeps the counters of a reader in their range.
use Rattle.std.specs.Prelude.{ℕ, ◌+◌, ◌*◌, ◌^◌, ◌<◌, ◌≤◌}
use Rattle.ffc_cert.specs.Limits.{max_bytes}
use Rattle.ffc_cert.specs.declared.progress.Place.{Place}
use Rattle.ffc_cert.specs.declared.progress.Place.TheVariants.{Header, Between, Assignment, Refutation}
use Rattle.ffc_cert.specs.declared.progress.Progress.{Progress}

-- the trees that are not begun, against the bytes of the entry
abbrev pub FewTrees : Place → ℕ → Type 0
FewTrees Header bytes = Unit {0}
FewTrees Between bytes = Unit {0}
FewTrees (Assignment left) bytes = Unit {0}
FewTrees (Refutation awaited) bytes = awaited.trees ≤ 2 ^ 32 * bytes

pub record IsBounded (p : Progress) : Type 0 where
  pub bytes : p.bytes ≤ max_bytes
  pub trees : FewTrees p.place p.bytes

-- there is room for another line
pub record HasRoom (p : Progress) : Type 0 where
  pub bounded : IsBounded p
  pub line : p.line + 1 < 2 ^ 64
  pub complete : p.complete + 1 < 2 ^ 64

-- A line has led on. No counter has grown by more than one.
pub record Follows (old new : Progress) : Type 0 where
  pub bounded : IsBounded new
  pub line : new.line ≤ old.line + 1
  pub complete : new.complete ≤ old.complete + 1
