-- The lines that the checker writes.
use Rattle.std.specs.Prelude.{ℕ, List, [], ◌∷◌, ◌++◌, codes, map, decimal}
use Rattle.ffc_lex.specs.Names.{written_symbol}
use Rattle.ffc_smt.specs.Terms.{Name}
use Rattle.ffc_rules.specs.Judging.{Cause, Format, Rule, Counts}

abbrev pub line : List ℕ → List ℕ
line text = text ++ 10 ∷ []

-- a script's fault, with its line, column and code
abbrev pub fault_line : ℕ → ℕ → ℕ → List ℕ
fault_line at_line column code = line (codes "(error \"" ++ decimal at_line ++ codes ":" ++ decimal column ++ codes " " ++ decimal code ++ codes "\")")

abbrev pub accepted_line : Counts → List ℕ
accepted_line n = line (codes "accepted " ++ decimal n.sat ++ codes " " ++ decimal n.unsat ++ codes " " ++ decimal n.unknown)

abbrev pub cause_text : Cause → List ℕ
cause_text (Format code) = codes "format " ++ decimal code
cause_text (Rule rule) = codes "rule " ++ decimal rule

-- the entry, the line of the certificate, and why
abbrev pub refused_line : ℕ → ℕ → Cause → List ℕ
refused_line entry at_line cause = line (codes "refused " ++ decimal entry ++ codes " " ++ decimal at_line ++ codes " " ++ cause_text cause)

-- texts, a space before each
abbrev pub spaced_after : List (List ℕ) → List ℕ
spaced_after [] = []
spaced_after (t ∷ ts) = 32 ∷ (t ++ spaced_after ts)

-- texts, a space between two of them
abbrev pub spaced : List (List ℕ) → List ℕ
spaced [] = []
spaced (t ∷ ts) = t ++ spaced_after ts

-- the names of an entry's core, as symbols are written
abbrev pub core_line : ℕ → List Name → List ℕ
core_line entry names = line (codes "core " ++ decimal entry ++ codes " (" ++ spaced (map written_symbol names) ++ codes ")")
