-- What is answered to a check by what its clauses force.
use Rattle.std.specs.Prelude.{◌≡◌, ℕ, map}
use Rattle.ffc_bounds.specs.Combinations.{IsRefutedByCombination, IsSolvedByCombination}
use Rattle.ffc_bounds.specs.Conjunctions.{field_constants}
use Rattle.ffc_bounds.specs.Forced.{IsRefutedByForcing}
use Rattle.ffc_linear.specs.declared.deciding.LinearAnswer.{LinearAnswer}
use Rattle.ffc_linear.specs.declared.deciding.LinearAnswer.TheVariants.{Undecided, Values, Refuted}
use Rattle.ffc_refutation.specs.Given.{AreReadable, AreRight}
use Rattle.ffc_rules.specs.Entries.{NodeCheck}
use Rattle.ffc_trials.specs.Known.{AreModelValuesOf}

-- the values are those of just the field constants and make all assertions true, or the refutation may be given
abbrev pub IsRightAnswer : NodeCheck → LinearAnswer → Type 0
IsRightAnswer c Undecided = Unit {0}
IsRightAnswer c (Values pairs) = (map (λ p. p.0) pairs.items ≡ field_constants c.nodes c.in_force) × AreModelValuesOf c pairs.items
IsRightAnswer c (Refuted lines) = AreReadable lines × AreRight c lines

-- within so many units neither propagation nor a combination decides the check
pub record IsBeyondFlat (units : ℕ) (c : NodeCheck) : Type 0 where
  pub not_forced : IsRefutedByForcing units c → ⊥
  pub not_refuted : IsRefutedByCombination units c → ⊥
  pub not_solved : IsSolvedByCombination units c → ⊥

-- an answer is right, and leaves only such checks undecided
abbrev pub IsFlatAnswer : NodeCheck → ℕ → LinearAnswer → Type 0
IsFlatAnswer c units answer = IsRightAnswer c answer × (answer ≡ Undecided → IsBeyondFlat units c)
