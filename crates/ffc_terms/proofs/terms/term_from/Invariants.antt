use Rattle.std.proofs.Common.{◌≡◌, drop}
use Rattle.ffc_terms.specs.Walking.{run, at, IsBelow}
use Rattle.ffc_terms.proofs.terms.term_from.Given as goal

abbrev pub invariant-loop-i : goal.invariant-loop-i
invariant-loop-i l = record {
  same : run l.reader.limit l.reader.symbols.now l.walk (drop l.i l.reader.words.now) ≡ at l.reader.limit l.reader.symbols.now l.fn.locals l.reader.words.now l.at;
  below : IsBelow l.i l.walk;
}
