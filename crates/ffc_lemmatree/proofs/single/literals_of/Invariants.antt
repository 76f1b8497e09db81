use Rattle.std.proofs.Common.{◌≡◌, ◌++◌, map, take}
use Rattle.ffc_clause.specs.Clauses.{plus, minus}
use Rattle.ffc_lemmatree.proofs.single.literals_of.Given as goal

abbrev pub invariant-loop-equation : goal.invariant-loop-equation
invariant-loop-equation l = l.lits.items ≡ map minus (take l.equation-index l.equations)

abbrev pub invariant-loop-disequation : goal.invariant-loop-disequation
invariant-loop-disequation l = l.lits.items ≡ map minus l.equations ++ map plus (take l.disequation-index l.disequations)
