-- Refutations that may be given.
use Rattle.std.specs.Prelude.{List}
use Rattle.ffc_cert.specs.declared.entries.CertLine.{CertLine}
use Rattle.ffc_cert.specs.declared.entries.Entry.TheVariants.{UnsatSteps}
use Rattle.ffc_cert.specs.WellFormed.{IsReadable}
use Rattle.ffc_rules.specs.Entries.{NodeCheck, EntryOk}

-- the lines are an entry of version 2 with a text that is not too long
abbrev pub AreReadable : List CertLine → Type 0
AreReadable lines = IsReadable 2 (UnsatSteps lines)

-- no line breaks a rule
abbrev pub AreRight : NodeCheck → List CertLine → Type 0
AreRight c lines = EntryOk c (UnsatSteps lines)
