-- The clauses of a scheme by its number, and the patterns that a short clause has.
use Rattle.std.specs.Prelude.{ℕ, List, [], ◌∷◌, Some, None, slice_get}
use Rattle.ffc_check.specs.declared.schemes.Pattern.{Pattern}
use Rattle.ffc_check.specs.declared.schemes.Pattern.TheVariants as of
use Rattle.ffc_clause.specs.Clauses.{Clause}

-- the clauses of the scheme of this number, none where there is no such scheme
abbrev pub scheme_in : List (List Clause) → ℕ → List Clause
scheme_in all scheme = elim (slice_get all scheme) [ None ↦ [] | Some clauses ↦ clauses ]

-- what a pattern means: one clause, or none
abbrev pub clauses_of : Pattern → List Clause
clauses_of of.Nothing = []
clauses_of (of.One a) = (a ∷ []) ∷ []
clauses_of (of.Two a b) = (a ∷ b ∷ []) ∷ []
clauses_of (of.Three a b c) = (a ∷ b ∷ c ∷ []) ∷ []
