use Rattle.std.proofs.Common.{All, take}
use Rattle.ffc_lemmatree.specs.Written.{IsLowCase}
use Rattle.ffc_lemmatree.proofs.fitting.are_low_cases.Given as goal

abbrev pub invariant-loop-case : goal.invariant-loop-case
invariant-loop-case g l = All (IsLowCase l.count) (take l.case-index l.cases)
