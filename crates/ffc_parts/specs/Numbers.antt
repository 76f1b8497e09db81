-- Numbers as the elaborator has them: those that are too large for every use are not distinguished.
use Rattle.std.specs.Prelude.{ℕ, ◌-◌, ◌^◌, min, if◌then◌else◌, Option, Some, None}
use Rattle.ffc_parts.specs.declared.numbers.Signed.{Signed}
use Rattle.ffc_smt.specs.Numbers as numbers

-- a number, or the greatest of 64 bits where it is greater
abbrev pub capped : ℕ → ℕ
capped n = min n (2 ^ 64 - 1)

-- the same number
abbrev pub signed_as : Signed → numbers.Signed
signed_as n = record { negative = n.negative; size = n.size }

-- a number that can be written
abbrev pub small_only : Option numbers.Signed → Option numbers.Signed
small_only None = None
small_only (Some n) = if numbers.is_small n then Some n else None

-- an order of the solver's fields
abbrev pub order_only : ℕ → Option ℕ
order_only p = if numbers.is_order p then Some p else None
