-- The version of the certificates that the solver writes.
use Rattle.std.specs.Prelude.{ℕ, Bool, true, false}

-- lines of bits are of version 3; without them version 2 is enough
abbrev pub written_version : Bool → ℕ
written_version true = 3
written_version false = 2
