-- How long a text may be, 64 MiB, and how many parentheses may be open in it.
use Rattle.std.specs.Prelude.{ℕ}

abbrev pub max_bytes : ℕ
max_bytes = 67108864

abbrev pub max_depth : ℕ
max_depth = 65536
