-- Clauses in one buffer: their literals one after another, and for each clause where it ends.
use Rattle.std.specs.Prelude.{ℕ, zero, suc, ◌≤◌, List, [], ◌∷◌, length, slice_range, slice_index}
use Rattle.ffc_clause.specs.Clauses.{Literal, Clause}

-- the clauses that end at these places, the first of which begins at a place
abbrev pub clauses_in : List Literal → ℕ → List ℕ → List Clause
clauses_in literals start [] = []
clauses_in literals start (end ∷ ends) = slice_range literals start end ∷ clauses_in literals end ends

-- no clause ends before it begins
abbrev pub AreEnds : ℕ → List ℕ → Type 0
AreEnds start [] = Unit {0}
AreEnds start (end ∷ ends) = (start ≤ end) × AreEnds end ends

-- where the last clause ends
abbrev pub last_end : ℕ → List ℕ → ℕ
last_end start [] = start
last_end start (end ∷ ends) = last_end end ends

-- where the clause of a number begins
abbrev pub start_of : ℕ → List ℕ → ℕ → ℕ
start_of start ends zero = start
start_of start ends (suc k) = slice_index ends k

-- the clauses lie within the buffer
pub record IsArena (literals : List Literal) (ends : List ℕ) : Type 0 where
  pub in_order : AreEnds 0 ends
  pub within : last_end 0 ends ≤ length literals
