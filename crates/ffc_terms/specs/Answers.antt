-- What calls answer, with their faults as the definitions have them.
use Rattle.std.specs.Prelude.{Result, Ok, Err}
use Rattle.ffc_smt.specs.Faults.{Fault}
use Rattle.ffc_lex.specs.declared.faults.ScriptFault.{ScriptFault}
use Rattle.ffc_words.specs.Words.{fault_of}

abbrev pub answered : {A : Type 0} → Result A ScriptFault → Result A Fault
answered (Ok a) = Ok a
answered (Err f) = Err (fault_of f)
