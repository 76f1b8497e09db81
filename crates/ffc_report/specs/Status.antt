-- The statuses of a report.
use Rattle.std.specs.Prelude.{ℕ, Option, Some, None}
use Rattle.ffc_report.specs.declared.statuses.ReportStatus.{ReportStatus}
use Rattle.ffc_report.specs.declared.statuses.ReportStatus.TheVariants.{Decided, Undecided, ScriptFault, Usage, ReadFault, WriteFault, CertFault, Memory}
use Rattle.ffc_report.specs.declared.statuses.ReportStatus.TheVariants.{CertRefused, CheckUsage, CheckScriptFault, CheckReadFault, CheckCertFault, CheckWriteFault, CheckMemory}

-- the number that the program ends with
abbrev pub code_of : ReportStatus → ℕ
code_of Decided = 0
code_of ScriptFault = 1
code_of Usage = 2
code_of ReadFault = 3
code_of WriteFault = 4
code_of CertFault = 5
code_of Memory = 6
code_of Undecided = 10
code_of CertRefused = 21
code_of CheckUsage = 22
code_of CheckScriptFault = 23
code_of CheckReadFault = 24
code_of CheckCertFault = 25
code_of CheckWriteFault = 26
code_of CheckMemory = 27

-- a status of a run that a call stopped, if there is one
abbrev pub IsNotDecided : ReportStatus → Type 0
IsNotDecided Decided = ⊥
IsNotDecided _ = Unit {0}

abbrev pub IsStopped : Option ReportStatus → Type 0
IsStopped None = Unit {0}
IsStopped (Some status) = IsNotDecided status
