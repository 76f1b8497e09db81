use Rattle.std.proofs.lemmas.Bool.{false_from_ne_true}
use Rattle.ffc_rules.specs.Cones.{span}
use Rattle.ffc_rules.specs.Assignments.{has_model_below}
use Rattle.ffc_rules.proofs.CaseLemmas.{no_model, a_model}
use Rattle.ffc_rules.proofs.laws.cases_are_all.Goals as goal

pub returns : goal.returns
returns c = λ nodes ids table within. (
  (λ none. no_model nodes ids table within none),
  (λ never. false_from_ne_true (has_model_below nodes ids (span nodes ids)) (λ some. let (A, all) = a_model nodes ids (span nodes ids) some in never A all)),
)
