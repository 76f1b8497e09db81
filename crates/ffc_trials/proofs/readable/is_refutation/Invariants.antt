use Rattle.std.proofs.Common.{◌≤◌, drop}
use Rattle.std.specs.List.{AllByRecursion}
use Rattle.ffc_cert.specs.Ranges.{IsLine}
use Rattle.ffc_cert.specs.WellFormed.{LineFitsVersion}
use Rattle.ffc_trials.specs.Versions.{written_version}
use Rattle.ffc_trials.proofs.ReadableLemmas.{ReadSoFar}
use Rattle.ffc_trials.proofs.readable.is_refutation.Given as goal

abbrev pub invariant-loop-line : goal.invariant-loop-line
invariant-loop-line l = record {
  order : ReadSoFar l.open l.clauses l.lines (drop l.line-index l.lines);
  ranges : AllByRecursion IsLine (drop l.line-index l.lines) → AllByRecursion IsLine l.lines;
  fits : AllByRecursion (LineFitsVersion (written_version l.bits)) (drop l.line-index l.lines) → AllByRecursion (LineFitsVersion (written_version l.bits)) l.lines;
  few : l.clauses ≤ l.line-index;
}
