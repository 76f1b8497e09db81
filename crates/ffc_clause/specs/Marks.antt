-- Which literals are assumed: a mark for each, at its own place.
use Rattle.std.specs.Prelude.{◌≡◌, ℕ, ◌+◌, ◌*◌, Bool, false, if◌then◌else◌, List, slice_index_or}
use Rattle.ffc_clause.specs.Clauses.{Literal, is_among}

-- the place of a literal among the literals of all nodes
abbrev pub place_of : Literal → ℕ
place_of l = 2 * l.1 + (if l.0 then 1 else 0)

abbrev pub mark_at : List Bool → ℕ → Bool
mark_at marks k = slice_index_or marks k false

-- just the assumed literals are marked
abbrev pub AreMarked : List Bool → List Literal → Type 0
AreMarked marks assumed = (l : Literal) → mark_at marks (place_of l) ≡ is_among assumed l
