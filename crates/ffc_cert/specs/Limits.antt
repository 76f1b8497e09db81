-- How long the text of an entry may be: 64 MiB.
use Rattle.std.specs.Prelude.{ℕ}

abbrev pub max_bytes : ℕ
max_bytes = 67108864
