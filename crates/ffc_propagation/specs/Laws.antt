-- What follows from an answer of propagation.
use Rattle.std.specs.Prelude.{ℕ, List}
use Rattle.ffc_bounds.specs.Forced.{IsRefutedByForcing}
use Rattle.ffc_clause.specs.Clauses.{Literal}
use Rattle.ffc_refutation.specs.declared.reason.Reason.{Reason}
use Rattle.ffc_rules.specs.Entries.{NodeCheck}
use Rattle.ffc_propagation.specs.Answers.{AreAllForced}

-- where all that is forced is listed with no literal beside its negation, propagation refutes the check within no budget
abbrev pub ForcedIsUnrefuted : Type 0
ForcedIsUnrefuted = (budget : ℕ) (c : NodeCheck) (literals : List Literal) (reasons : List Reason) → AreAllForced c literals reasons → IsRefutedByForcing budget c → ⊥
