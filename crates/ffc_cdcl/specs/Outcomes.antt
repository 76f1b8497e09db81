-- What a solver's answer is.
use Rattle.std.specs.Prelude.{List, Option, Some, None}
use Rattle.ffc_clause.specs.Clauses.{Literal, Clause}
use Rattle.ffc_cdcl.specs.declared.answer.Outcome.{Outcome}
use Rattle.ffc_cdcl.specs.declared.answer.Outcome.TheVariants.{Model, Refuted}
use Rattle.ffc_cdcl.specs.declared.answer.HintedClause.{HintedClause}
use Rattle.ffc_cdcl.specs.Literals.{NamesNoNodeTwice, MakesTrue}

-- a trail that names no node twice and makes each clause true
pub record IsModel (added : List Clause) (trail : List Literal) : Type 0 where
  pub distinct : NamesNoNodeTwice trail
  pub makes_true : MakesTrue trail added

abbrev pub OnModel : (List Literal → Type 0) → Outcome → Type 0
OnModel P (Model trail) = P trail
OnModel P (Refuted steps) = Unit {0}

abbrev pub OnRefuted : (List HintedClause → Type 0) → Outcome → Type 0
OnRefuted P (Model trail) = Unit {0}
OnRefuted P (Refuted steps) = P steps.items

abbrev pub OnSomeModel : (List Literal → Type 0) → Option Outcome → Type 0
OnSomeModel P None = Unit {0}
OnSomeModel P (Some outcome) = OnModel P outcome

abbrev pub OnSomeRefuted : (List HintedClause → Type 0) → Option Outcome → Type 0
OnSomeRefuted P None = Unit {0}
OnSomeRefuted P (Some outcome) = OnRefuted P outcome
