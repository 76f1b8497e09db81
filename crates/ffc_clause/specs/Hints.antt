-- When a clause follows from earlier ones by hints: reverse unit propagation (Goldberg and Novikov 2003), with the clauses to
-- propagate over given in order, as in LRAT (Cruz-Filipe, Heule, Hunt, Kaufmann and Schneider-Kamp 2017).
use Rattle.std.specs.Prelude.{ℕ, Bool, true, false, not, List, [], ◌∷◌, map, filter, slice_get, option_map, option_and_then, Option, Some, None, if◌then◌else◌}
use Rattle.std.specs.List.{list_all}
use Rattle.ffc_clause.specs.Clauses.{Literal, Clause, negated, same_literal, is_among}

-- the literals of a clause whose negations are not assumed
abbrev pub open_literals : List Literal → Clause → List Literal
open_literals assumed clause = filter (λ l. not (is_among assumed (negated l))) clause

-- the one literal of a list, where it has one and no other, however often that is written
abbrev pub only_literal : List Literal → Option Literal
only_literal [] = None
only_literal (l ∷ ls) = if list_all (same_literal l) ls then Some l else None

-- the open literals of a hint, where it names one of the clauses
abbrev pub opened : List Clause → List Literal → ℕ → Option (List Literal)
opened clauses assumed hint = option_map (open_literals assumed) (slice_get clauses hint)

-- no literal is open
abbrev pub is_closed : Option (List Literal) → Bool
is_closed None = false
is_closed (Some []) = true
is_closed (Some (l ∷ ls)) = false

-- A contradiction by hints, from the literals that are assumed. Each hint but the last has one open literal, which is assumed
-- from there on; the last has none.
unfoldable pub is_contradiction : List Clause → List Literal → List ℕ → Bool
is_contradiction clauses assumed [] = false
is_contradiction clauses assumed (h ∷ []) = is_closed (opened clauses assumed h)
is_contradiction clauses assumed (h ∷ g ∷ hints) =
    elim (option_and_then only_literal (opened clauses assumed h)) [
      | None ↦ false
      | Some l ↦ is_contradiction clauses (l ∷ assumed) (g ∷ hints)
    ]

-- a clause follows where the negations of its literals give a contradiction
abbrev pub follows : List Clause → Clause → List ℕ → Bool
follows clauses clause hints = is_contradiction clauses (map negated clause) hints
