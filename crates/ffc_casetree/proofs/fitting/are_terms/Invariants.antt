use Rattle.std.proofs.Common.{take}
use Rattle.std.specs.List.{AllByRecursion}
use Rattle.ffc_cert.specs.Ranges.{IsTerm}
use Rattle.ffc_casetree.proofs.fitting.are_terms.Given as goal

abbrev pub invariant-loop-term : goal.invariant-loop-term
invariant-loop-term l = AllByRecursion IsTerm (take l.term-index l.terms)
