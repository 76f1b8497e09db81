-- What hints and propagation mean.
use Rattle.std.specs.Prelude.{◌≡◌, ℕ, Bool, true, List, Some, slice_get, All}
use Rattle.std.specs.List.{AllByRecursion}
use Rattle.ffc_clause.specs.Clauses.{Literal, Clause, negated, literal_holds, clause_holds}
use Rattle.ffc_clause.specs.Hints.{follows}
use Rattle.ffc_clause.specs.Propagation.{Propagates, IsRefutedByPropagation}

-- a clause that follows by hints is true where those clauses are that the hints name
abbrev pub HintsAreSound : Type 0
HintsAreSound = (truth : ℕ → Bool) (clauses : List Clause) (clause : Clause) (hints : List ℕ)
    → AllByRecursion (λ hint. (hinted : Clause) → slice_get clauses hint ≡ Some hinted → clause_holds truth hinted ≡ true) hints
    → follows clauses clause hints ≡ true → clause_holds truth clause ≡ true

-- what is propagated is true where the clauses are
abbrev pub PropagationIsSound : Type 0
PropagationIsSound = (truth : ℕ → Bool) (clauses : List Clause) (l : Literal) → All (λ c. clause_holds truth c ≡ true) clauses
    → Propagates clauses l → literal_holds truth l ≡ true

-- clauses that propagation refutes are never all true
abbrev pub RefutedAreNeverTrue : Type 0
RefutedAreNeverTrue = (truth : ℕ → Bool) (clauses : List Clause) → IsRefutedByPropagation clauses → All (λ c. clause_holds truth c ≡ true) clauses → ⊥

-- a literal that is propagated with its negation refutes some clause
abbrev pub ConflictsRefute : Type 0
ConflictsRefute = (clauses : List Clause) (l : Literal) → Propagates clauses l → Propagates clauses (negated l) → IsRefutedByPropagation clauses
