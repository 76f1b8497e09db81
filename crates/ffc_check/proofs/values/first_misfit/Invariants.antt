use Rattle.std.proofs.Common.{◌≡◌, ℕ, ◌+◌, drop}
use Rattle.ffc_rules.specs.Entries.{first_misfit}
use Rattle.ffc_check.proofs.values.first_misfit.Given as goal

abbrev pub invariant-loop-i : goal.invariant-loop-i
invariant-loop-i l = (line : ℕ) → first_misfit l.table (drop l.i l.declared) (drop l.i l.pairs) (line + l.i) ≡ first_misfit l.table l.declared l.pairs line
