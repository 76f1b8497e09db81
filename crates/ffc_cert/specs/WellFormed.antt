-- When an entry is well formed.
use Rattle.std.specs.Prelude.{◌≡◌, ℕ, ◌^◌, ◌<◌, ◌≤◌, ◌⊎◌, List, length, Option, Some, None}
use Rattle.std.specs.List.{AllByRecursion}
use Rattle.ffc_cert.specs.declared.entries.Entry.{Entry}
use Rattle.ffc_cert.specs.declared.entries.Entry.TheVariants.{Sat, UnsatCases, UnsatSteps, Unknown}
use Rattle.ffc_cert.specs.declared.entries.CertLine.{CertLine}
use Rattle.ffc_cert.specs.declared.entries.CertLine.TheVariants.{Lemma, Bits}
use Rattle.ffc_cert.specs.Limits.{max_bytes}
use Rattle.ffc_cert.specs.Spelling.{clauses, entry_text}
use Rattle.ffc_cert.specs.Ranges.{IsCounted, IsValue, IsCause, IsLine}
use Rattle.ffc_cert.specs.Grammar.{AreClauses}

-- a lemma names its order in versions 2 and 3, and no order in version 1; lines of bits are of version 3
abbrev pub LineFitsVersion : ℕ → CertLine → Type 0
LineFitsVersion version (Lemma None lits) = version ≡ 1
LineFitsVersion version (Lemma (Some order) lits) = (version ≡ 2) ⊎ (version ≡ 3)
LineFitsVersion version (Bits line chosen polynomial bits) = version ≡ 3
LineFitsVersion version _ = Unit {0}

abbrev pub FitsVersion : ℕ → Entry → Type 0
FitsVersion version (Sat values) = Unit {0}
FitsVersion version UnsatCases = Unit {0}
FitsVersion version (UnsatSteps lines) = AllByRecursion (LineFitsVersion version) lines
FitsVersion version (Unknown cause) = Unit {0}

-- clauses in their order, with numbers in range
pub record IsRefutation (version : ℕ) (lines : List CertLine) : Type 0 where
  pub few : clauses lines < 2 ^ 32
  pub order : AreClauses lines
  pub ranges : AllByRecursion IsLine lines
  pub fits : AllByRecursion (LineFitsVersion version) lines

-- an entry that has a text of its own in a version
abbrev pub IsWellFormed : ℕ → Entry → Type 0
IsWellFormed version (Sat values) = IsCounted IsValue values
IsWellFormed version UnsatCases = Unit {0}
IsWellFormed version (UnsatSteps lines) = IsRefutation version lines
IsWellFormed version (Unknown cause) = IsCause cause

-- a well-formed entry whose text is not too long
pub record IsReadable (version : ℕ) (entry : Entry) : Type 0 where
  pub well_formed : IsWellFormed version entry
  pub short : length (entry_text entry) ≤ max_bytes

-- the same in a version that is known
abbrev pub IsReadableIn : Option ℕ → Entry → Type 0
IsReadableIn None entry = ⊥
IsReadableIn (Some version) entry = IsReadable version entry
