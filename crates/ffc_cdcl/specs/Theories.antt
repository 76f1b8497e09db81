-- What a theory answers about a trail, and what stays of its lemmas.
use Rattle.std.specs.Prelude.{◌≡◌, ℕ, List, All, Contains, Some, slice_get}
use Rattle.ffc_clause.specs.Clauses.{Literal, Clause, negated}
use Rattle.ffc_cdcl.specs.declared.theory.TheoryAnswer.{TheoryAnswer}
use Rattle.ffc_cdcl.specs.declared.theory.TheoryAnswer.TheVariants.{Agreed, Conflict}

-- no lemma is changed or dropped
abbrev pub KeepsLemmas : List Clause → List Clause → Type 0
KeepsLemmas old new = (k : ℕ) (lemma : Clause) → slice_get old k ≡ Some lemma → slice_get new k ≡ Some lemma

-- an agreement says this
abbrev pub OnAgreed : Type 0 → TheoryAnswer → Type 0
OnAgreed P Agreed = P
OnAgreed P (Conflict clause k) = Unit {0}

-- a conflict's clause is the lemma of its number
abbrev pub NamesLemma : List Clause → TheoryAnswer → Type 0
NamesLemma lemmas Agreed = Unit {0}
NamesLemma lemmas (Conflict clause k) = slice_get lemmas k ≡ Some clause

-- a conflict's clause has negations of the trail's literals alone
abbrev pub IsFalseOn : List Literal → TheoryAnswer → Type 0
IsFalseOn trail Agreed = Unit {0}
IsFalseOn trail (Conflict clause k) = All (λ l. Contains trail (negated l)) clause
