-- What a call that reads on gives: the next state, or the fault; nothing is said where memory is out.
use Rattle.std.specs.Prelude.{◌≡◌, List, Result, Ok, Err}
use Rattle.ffc_cdcl.specs.State.{State}
use Rattle.cnfsolve.specs.Reading.{Reading}
use Rattle.cnfsolve.specs.declared.faults.Fault.{Fault}
use Rattle.cnfsolve.specs.declared.faults.ReadStop.{ReadStop}
use Rattle.cnfsolve.specs.declared.faults.ReadStop.TheVariants as stopped

abbrev pub Stops : {A : Type 0} → Result A Fault → ReadStop → Type 0
Stops given (stopped.Fault fault) = given ≡ Err fault
Stops given stopped.Memory = Unit {0}
