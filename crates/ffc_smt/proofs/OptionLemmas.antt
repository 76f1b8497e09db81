-- The options by name.
use Rattle.std.proofs.Common.{◌≡◌, Bool, refl}
use Rattle.ffc_smt.specs.Terms.{Setting, PrintSuccess, ProduceModels, GlobalDeclarations, ProduceUnsatCores, ProduceUnsatAssumptions}
use Rattle.ffc_smt.specs.Scopes.{Options, option_of, with_option}

pub option_set : (o : Options) (k : Setting) (b : Bool) → option_of (with_option o k b) k ≡ b
option_set o PrintSuccess b = refl
option_set o ProduceModels b = refl
option_set o GlobalDeclarations b = refl
option_set o ProduceUnsatCores b = refl
option_set o ProduceUnsatAssumptions b = refl

pub option_kept : (o : Options) (k j : Setting) (b : Bool) → (j ≡ k → ⊥) → option_of (with_option o k b) j ≡ option_of o j
option_kept o PrintSuccess PrintSuccess b other = absurd (other refl)
option_kept o PrintSuccess ProduceModels b other = refl
option_kept o PrintSuccess GlobalDeclarations b other = refl
option_kept o PrintSuccess ProduceUnsatCores b other = refl
option_kept o PrintSuccess ProduceUnsatAssumptions b other = refl
option_kept o ProduceModels PrintSuccess b other = refl
option_kept o ProduceModels ProduceModels b other = absurd (other refl)
option_kept o ProduceModels GlobalDeclarations b other = refl
option_kept o ProduceModels ProduceUnsatCores b other = refl
option_kept o ProduceModels ProduceUnsatAssumptions b other = refl
option_kept o GlobalDeclarations PrintSuccess b other = refl
option_kept o GlobalDeclarations ProduceModels b other = refl
option_kept o GlobalDeclarations GlobalDeclarations b other = absurd (other refl)
option_kept o GlobalDeclarations ProduceUnsatCores b other = refl
option_kept o GlobalDeclarations ProduceUnsatAssumptions b other = refl
option_kept o ProduceUnsatCores PrintSuccess b other = refl
option_kept o ProduceUnsatCores ProduceModels b other = refl
option_kept o ProduceUnsatCores GlobalDeclarations b other = refl
option_kept o ProduceUnsatCores ProduceUnsatCores b other = absurd (other refl)
option_kept o ProduceUnsatCores ProduceUnsatAssumptions b other = refl
option_kept o ProduceUnsatAssumptions PrintSuccess b other = refl
option_kept o ProduceUnsatAssumptions ProduceModels b other = refl
option_kept o ProduceUnsatAssumptions GlobalDeclarations b other = refl
option_kept o ProduceUnsatAssumptions ProduceUnsatCores b other = refl
option_kept o ProduceUnsatAssumptions ProduceUnsatAssumptions b other = absurd (other refl)
