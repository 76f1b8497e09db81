-- What reading answers: what a part says, or the one of its faults that is answered.
use Rattle.std.specs.Prelude.{Result, Ok, Err}
use Rattle.ffc_smt.specs.Faults.{Fault, Read, Sound, Faulty, first_fault}

abbrev pub outcome : {A : Type 0} → Read A → Result A Fault
outcome (Sound a) = Ok a
outcome (Faulty f fs) = Err (first_fault f fs)
