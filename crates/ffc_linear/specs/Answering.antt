-- What an answer to a linear check says.
use Rattle.std.specs.Prelude.{◌≡◌, ℕ, true, false, map}
use Rattle.ffc_bounds.specs.Conjunctions.{field_constants}
use Rattle.ffc_bounds.specs.Linear.{is_linear_within}
use Rattle.ffc_refutation.specs.Given.{AreReadable, AreRight}
use Rattle.ffc_rules.specs.Entries.{NodeCheck, limits}
use Rattle.ffc_trials.specs.Known.{AreModelValuesOf}
use Rattle.ffc_linear.specs.declared.deciding.LinearAnswer.{LinearAnswer}
use Rattle.ffc_linear.specs.declared.deciding.LinearAnswer.TheVariants.{Undecided, Values, Refuted}

-- The values are those of the field constants, and of no others. A check is left undecided just where it is not linear within these
-- units.
abbrev pub IsLinearAnswer : NodeCheck → ℕ → LinearAnswer → Type 0
IsLinearAnswer c units Undecided = is_linear_within limits c units ≡ false
IsLinearAnswer c units (Values pairs) =
    (is_linear_within limits c units ≡ true)
    × (map (λ p. p.0) pairs.items ≡ field_constants c.nodes c.in_force)
    × AreModelValuesOf c pairs.items
IsLinearAnswer c units (Refuted lines) = (is_linear_within limits c units ≡ true) × AreReadable lines × AreRight c lines
