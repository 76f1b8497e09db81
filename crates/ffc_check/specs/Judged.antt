-- What an entry is judged by, and which entries are judged.
use Rattle.std.specs.Prelude.{ℕ}
use Rattle.ffc_cert.specs.declared.entries.Entry.{Entry}
use Rattle.ffc_cert.specs.WellFormed.{IsReadable}
use Rattle.ffc_term.specs.declared.check.Check.{Check}
use Rattle.ffc_rules.specs.Entries.{NodeCheck}

-- a check with its table, as lists of nodes
abbrev pub judged_check : Check → NodeCheck
judged_check c = record { nodes = c.table.now; declared = c.declared.now; in_force = c.in_force.now; first_order = c.first_order }

-- well formed in the version that its lemmas fit, and not too long
abbrev pub IsReadableEntry : Entry → Type 0
IsReadableEntry entry = (version : ℕ) × IsReadable version entry
