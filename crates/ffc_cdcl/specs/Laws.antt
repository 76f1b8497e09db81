-- What refutations and models mean.
use Rattle.std.specs.Prelude.{ℕ, Bool, List}
use Rattle.ffc_clause.specs.Clauses.{Literal, Clause}
use Rattle.ffc_cdcl.specs.declared.answer.HintedClause.{HintedClause}
use Rattle.ffc_cdcl.specs.Outcomes.{IsModel}
use Rattle.ffc_cdcl.specs.State.{AllHold}
use Rattle.ffc_cdcl.specs.Steps.{IsRefutation}

-- clauses that are refuted are never true together with the lemmas
abbrev pub RefutationsAreSound : Type 0
RefutationsAreSound = (truth : ℕ → Bool) (added lemmas : List Clause) (steps : List HintedClause) → IsRefutation added lemmas steps → AllHold truth added → AllHold truth lemmas → ⊥

-- where there is a model, all clauses are true under some truth values
abbrev pub ModelsAreSound : Type 0
ModelsAreSound = (added : List Clause) (trail : List Literal) → IsModel added trail → (truth : ℕ → Bool) × AllHold truth added
