use Rattle.std.proofs.Common.{ℕ, ◌+◌, ◌≤◌}
use Rattle.ffc_smt.specs.Making.{Made}
use Rattle.ffc_parts.specs.Growing.{Grows}
use Rattle.ffc_making.specs.Machine.{GoesOn}
use Rattle.ffc_making.proofs.making.Maker.run.Given as goal

abbrev pub invariant-loop : goal.invariant-loop
invariant-loop l = (n : ℕ) (wanted : Made) → n ≤ l.steps → GoesOn n l.symbols.terms wanted l.initial.table l.initial.self
    → (k : ℕ) × (k + l.counter ≤ l.steps) × GoesOn k l.symbols.terms wanted l.table l.self × Grows l.initial.table l.table
