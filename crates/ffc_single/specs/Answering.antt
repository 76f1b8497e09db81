-- What an answer to a flat check in one constant says.
use Rattle.std.specs.Prelude.{◌≡◌, ℕ, map}
use Rattle.ffc_bounds.specs.Conjunctions.{field_constants}
use Rattle.ffc_linear.specs.declared.deciding.LinearAnswer.{LinearAnswer}
use Rattle.ffc_linear.specs.declared.deciding.LinearAnswer.TheVariants.{Undecided, Values, Refuted}
use Rattle.ffc_refutation.specs.Given.{AreReadable, AreRight}
use Rattle.ffc_rules.specs.Entries.{NodeCheck}
use Rattle.ffc_trials.specs.Known.{AreModelValuesOf}
use Rattle.ffc_single.specs.Bounds.{IsDecidedSingle}

-- A check is left undecided only where it isn't one that so many units decide. The values are those of the field constants and make
-- all assertions true, or the refutation may be given.
abbrev pub IsSingleAnswer : NodeCheck → ℕ → LinearAnswer → Type 0
IsSingleAnswer c units Undecided = IsDecidedSingle units c → ⊥
IsSingleAnswer c units (Values pairs) = (map (λ p. p.0) pairs.items ≡ field_constants c.nodes c.in_force) × AreModelValuesOf c pairs.items
IsSingleAnswer c units (Refuted lines) = AreReadable lines × AreRight c lines
