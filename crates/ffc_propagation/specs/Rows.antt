-- For each literal the clauses that have it, in increasing order of their numbers.
use Rattle.std.specs.Global.{Global}
use Rattle.std.specs.Prelude.{◌≡◌, ℕ, zero, suc, ◌-◌, ◌<◌, ◌≤◌, ◌==◌, Bool, false, Vec, List, [], ◌∷◌, ◌++◌, length, map, filter, slice_get, slice_index_or, Option, Some, None, if◌then◌else◌}
use Rattle.std.specs.List.{range_with_len}
use Rattle.ffc_clause.specs.Clauses.{Literal, Clause, is_among}
use Rattle.ffc_clause.specs.Marks.{place_of}
use Rattle.ffc_propagation.specs.Counts.{IsCounted}

abbrev pub rows_of : List (Vec ℕ Global) → List (List ℕ)
rows_of rows = map (λ row. row.items) rows

-- the list of a number, where 0 is the empty one
abbrev pub list_at : List (List ℕ) → ℕ → List ℕ
list_at lists zero = []
list_at lists (suc k) = slice_index_or lists k []

-- the rows that have these lists by number
abbrev pub rows_in : List (List ℕ) → List ℕ → List (List ℕ)
rows_in lists index = map (list_at lists) index

-- numbers of lists, of which there are so many: no two rows have one list that is not the empty one
pub record IsIndex (count : ℕ) (index : List ℕ) : Type 0 where
  pub within : (p : ℕ) → slice_index_or index p 0 ≤ count
  pub apart : (p q : ℕ) → p < length index → q < length index → 0 < slice_index_or index p 0 → slice_index_or index p 0 ≡ slice_index_or index q 0 → p ≡ q

abbrev pub row_at : List (List ℕ) → ℕ → List ℕ
row_at rows place = slice_index_or rows place []

-- the last number of a row is this one
abbrev pub ends_with : List ℕ → ℕ → Bool
ends_with row k = elim (slice_get row (length row - 1)) [ None ↦ false | Some j ↦ j == k ]

abbrev pub clause_at : List Clause → ℕ → Clause
clause_at clauses k = slice_index_or clauses k []

-- those of the first k clauses that have the literal
abbrev pub having : List Clause → ℕ → Literal → List ℕ
having clauses k l = filter (λ j. is_among (clause_at clauses j) l) (range_with_len 0 k)

-- The row of each literal has those of the first k clauses that have it, and the next one where the literal is among those of
-- that one's literals that were looked at.
abbrev pub AreRows : List Clause → ℕ → Clause → List (List ℕ) → Type 0
AreRows clauses k begun rows = (l : Literal) → row_at rows (place_of l) ≡ having clauses k l ++ (if is_among begun l then k ∷ [] else [])

-- of each clause there are so many different literals whose negations are not known
abbrev pub AreCounted : (Literal → Bool) → List Clause → List ℕ → Type 0
AreCounted known clauses counts = (k : ℕ) → k < length clauses → IsCounted known (clause_at clauses k) (slice_index_or counts k 0)
