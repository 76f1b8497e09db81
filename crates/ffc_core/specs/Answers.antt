-- What the judge of a core passes on of what the judge of an entry answers.
use Rattle.ffc_check.specs.declared.stop.CheckStop.{CheckStop}
use Rattle.ffc_check.specs.declared.stop.CheckStop.TheVariants as checks
use Rattle.ffc_core.specs.declared.checking.CoreStop.{CoreStop}
use Rattle.ffc_core.specs.declared.checking.CoreStop.TheVariants as stops

abbrev pub passed_on : CheckStop → CoreStop
passed_on (checks.Broken b) = stops.Broken b
passed_on checks.Memory = stops.Memory
