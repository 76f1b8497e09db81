use Rattle.std.proofs.Common.{◌≡◌, drop}
use Rattle.ffc_clause.specs.Hints.{is_contradiction}
use Rattle.ffc_check.proofs.hints.contradicts.Given as goal

abbrev pub invariant-loop-i : goal.invariant-loop-i
invariant-loop-i l = is_contradiction l.clauses l.assumed (drop l.i l.hints) ≡ is_contradiction l.clauses l.initial.assumed l.hints
