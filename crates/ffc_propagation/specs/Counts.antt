-- How many different literals of a clause are not known to be false.
use Rattle.std.specs.Prelude.{◌≡◌, ℕ, Bool, false, not, List, [], ◌∷◌, count_by}
use Rattle.ffc_clause.specs.Clauses.{Literal, Clause, negated, is_among}

-- no literal is listed twice
abbrev pub AreDifferent : List Literal → Type 0
AreDifferent [] = Unit {0}
AreDifferent (l ∷ ls) = (is_among ls l ≡ false) × AreDifferent ls

-- So many different literals of the clause have negations that are not known.
pub record IsCounted (known : Literal → Bool) (clause : Clause) (n : ℕ) : Type 0 where
  pub different : List Literal
  pub once : AreDifferent different
  pub same : (m : Literal) → is_among different m ≡ is_among clause m
  pub count : count_by (λ m. not (known (negated m))) different ≡ n
