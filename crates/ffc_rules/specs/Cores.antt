-- Which assertions and assumptions a refutation uses: those that are reached from its last clause by hints.
use Rattle.std.specs.Prelude.{◌≡◌, ℕ, ◌+◌, ◌-◌, List, [], ◌∷◌, ◌++◌, length, filter, filter_map, slice_get, option_and_then, Option, Some, Contains, if◌then◌else◌}
use Rattle.std.specs.List.{range_with_len}
use Rattle.ffc_cert.specs.declared.entries.Entry.{Entry}
use Rattle.ffc_cert.specs.declared.entries.Entry.TheVariants.{Sat, UnsatCases, UnsatSteps, Unknown}
use Rattle.ffc_cert.specs.declared.entries.CertLine.{CertLine}
use Rattle.ffc_cert.specs.declared.entries.CertLine.TheVariants.{Assume, Hinted}
use Rattle.ffc_cert.specs.Spelling.{is_clause}
use Rattle.ffc_smt.specs.Terms.{Name}
use Rattle.ffc_rules.specs.Cones.{is_listed}

-- the lines that are clauses
abbrev pub clause_lines : List CertLine → List CertLine
clause_lines lines = filter is_clause lines

-- the earlier clauses that a clause reaches
abbrev pub hints_of : CertLine → List ℕ
hints_of (Hinted lits hints) = hints
hints_of _ = []

-- these numbers of clauses have the last clause among them, and with each clause its hints
pub record AreClosedUnderHints (clauses : List CertLine) (numbers : List ℕ) : Type 0 where
  pub last : Contains numbers (length clauses - 1)
  pub hints : (k h : ℕ) (x : CertLine) → Contains numbers k → slice_get clauses k ≡ Some x → Contains (hints_of x) h → Contains numbers h

-- The clauses that are reached from the last one, some of them more than once: those that are found from the last of some
-- clauses down to the first, which is numbered k. After all clauses the last one is found.
unfoldable pub reached_clauses : ℕ → List CertLine → List ℕ
reached_clauses k [] = (k - 1) ∷ []
reached_clauses k (x ∷ rest) =
    let above = reached_clauses (k + 1) rest in if is_listed above k then hints_of x ++ above else above

-- the number that a clause takes from the active list
abbrev pub taken_by : CertLine → List ℕ
taken_by (Assume k) = k ∷ []
taken_by _ = []

-- the numbers that the reached clauses take, where the first of these clauses is numbered k
abbrev pub numbers_taken : List ℕ → ℕ → List CertLine → List ℕ
numbers_taken found k [] = []
numbers_taken found k (x ∷ rest) = (if is_listed found k then taken_by x else []) ++ numbers_taken found (k + 1) rest

abbrev pub numbers_reached : List CertLine → List ℕ
numbers_reached lines = numbers_taken (reached_clauses 0 (clause_lines lines)) 0 (clause_lines lines)

-- the numbers of an active list that an entry uses, in increasing order, where the list has so many
unfoldable pub core : Entry → ℕ → List ℕ
core (Sat pairs) count = []
core UnsatCases count = range_with_len 0 count
core (UnsatSteps lines) count = let numbers = numbers_reached lines in filter (λ k. is_listed numbers k) (range_with_len 0 count)
core (Unknown cause) count = []

-- the names at these numbers, where there are some
abbrev pub names_at : List (Option Name) → List ℕ → List Name
names_at names numbers = filter_map (λ k. option_and_then (λ name. name) (slice_get names k)) numbers
