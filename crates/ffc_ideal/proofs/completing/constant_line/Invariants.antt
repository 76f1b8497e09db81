use Rattle.std.proofs.Common.{ℕ, ◌<◌}
use Rattle.ffc_line.specs.Lines.{polys_of}
use Rattle.ffc_basis.specs.Completion.{IsConstantLine}
use Rattle.ffc_ideal.proofs.completing.constant_line.Given as goal

-- no line before this place is a constant other than 0
abbrev pub invariant-loop-place : goal.invariant-loop-place
invariant-loop-place g l = (i : ℕ) → i < l.place → IsConstantLine g.F.Field.ORDER (polys_of l.lines) i → ⊥
