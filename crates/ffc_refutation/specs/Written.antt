-- The lines that refutations are written as.
use Rattle.std.specs.Prelude.{ℕ, ◌+◌, nat_lt, if◌then◌else◌, List, [], ◌∷◌, ◌++◌, All, length, map, Some}
use Rattle.std.specs.List.{range_with_len}
use Rattle.ffc_cert.specs.declared.entries.CertLine.{CertLine}
use Rattle.ffc_cert.specs.declared.entries.CertLine.TheVariants.{Hinted, Lemma, Combine, Close}
use Rattle.ffc_cert.specs.Ranges.{IsNarrow, IsLine}
use Rattle.ffc_clause.specs.Clauses.{Literal}
use Rattle.ffc_trees.specs.TreeLines.{Multiple}
use Rattle.ffc_refutation.specs.declared.reason.Reason.{Reason}
use Rattle.ffc_refutation.specs.Forcing.{line_of}
use Rattle.ffc_refutation.specs.Combinations.{Summand}

-- the empty clause, with so many clauses as its hints, from the first
abbrev pub empty_by : ℕ → CertLine
empty_by count = Hinted [] (range_with_len 0 count)

abbrev pub conflict_lines : List Reason → List CertLine
conflict_lines reasons = map line_of reasons ++ empty_by (length reasons) ∷ []

-- a line times one term
abbrev pub multiple_of : Summand → Multiple
multiple_of s = (s.0, s.1 ∷ [])

-- a line times 1
abbrev pub whole_line : ℕ → Multiple
whole_line number = (number, (1, []) ∷ [])

-- The tree that adds up multiples. The multiples of the next sum so far come first. A sum of enough multiples is written as a
-- line, whose number is the next one, and that line is the first multiple of the sum after it.
abbrev pub sums_tree : ℕ → List Multiple → List Multiple → List CertLine
sums_tree next pending [] = Combine pending ∷ Close ∷ []
sums_tree next pending (m ∷ ms) =
    if nat_lt (length pending) 448
    then sums_tree next (pending ++ m ∷ []) ms
    else Combine pending ∷ sums_tree (next + 1) (whole_line next ∷ m ∷ []) ms

abbrev pub combination_lines : List Reason → ℕ → List Literal → List Summand → List CertLine
combination_lines reasons order lits summands =
    map line_of reasons
    ++ (Lemma (Some order) lits ∷ (sums_tree (length lits) [] (map multiple_of summands) ++ empty_by (length reasons + 1) ∷ []))

-- The ranges that numbers have by their type.

abbrev pub AreLines : List Reason → Type 0
AreLines reasons = All (λ r. IsLine (line_of r)) reasons

abbrev pub AreNumbered : List Literal → Type 0
AreNumbered lits = All (λ l. IsNarrow l.1) lits

abbrev pub IsNumbered : Summand → Type 0
IsNumbered s = All (λ f. IsNarrow f.0) s.1.1
