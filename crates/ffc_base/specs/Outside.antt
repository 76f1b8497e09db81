-- What the outside may do: sources and sinks of bytes whose faults are counted.
--
-- What a source has left, and what a sink holds, is stated or not: `None` says that no clause speaks of
-- it, as for a file or a terminal.
use Rattle.std.specs.Prelude.{◌≡◌, ℕ, ◌<◌, ◌≤◌, ◌⊎◌, List, [], ◌++◌, length, take, drop, Option, Some, None}

-- The count of faults rose in a call. At its last value a count stays, which counts as risen too.
abbrev pub Rose : ℕ → ℕ → Type 0
Rose before now = (before < now) ⊎ (now ≡ 18446744073709551615)

-- A read moved n bytes to the front of a buffer: they are the first n of those that were left, the others
-- are left, and where n is 0 nothing was left.
abbrev pub MovesFront : ℕ → List ℕ → Option (List ℕ) → Option (List ℕ) → Type 0
MovesFront n buffer None new = Unit {0}
MovesFront n buffer (Some bytes) new =
    (n ≤ length bytes) × (take n buffer ≡ take n bytes) × (new ≡ Some (drop n bytes)) × (n ≡ 0 → bytes ≡ [])

-- A write put all the bytes after what was held.
abbrev pub Appends : List ℕ → Option (List ℕ) → Option (List ℕ) → Type 0
Appends bytes None new = Unit {0}
Appends bytes (Some held) new = new ≡ Some (held ++ bytes)

-- A write put some front of the bytes after what was held.
abbrev pub AppendsPrefix : List ℕ → Option (List ℕ) → Option (List ℕ) → Type 0
AppendsPrefix bytes None new = Unit {0}
AppendsPrefix bytes (Some held) new = (n : ℕ) × (n ≤ length bytes) × (new ≡ Some (held ++ take n bytes))

-- What was stated is now this.
abbrev pub Becomes : List ℕ → Option (List ℕ) → Option (List ℕ) → Type 0
Becomes bytes None new = Unit {0}
Becomes bytes (Some old) new = new ≡ Some bytes
