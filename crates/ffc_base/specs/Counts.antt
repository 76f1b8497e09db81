-- Counts that don't wrap.
use Rattle.std.specs.Prelude.{ℕ, ◌+◌, min}

-- one more, where a count stays at 2^64 - 1, the last value of a counter
abbrev pub counted : ℕ → ℕ
counted n = min (n + 1) 18446744073709551615
