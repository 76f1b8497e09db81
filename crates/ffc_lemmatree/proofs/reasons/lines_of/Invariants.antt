use Rattle.std.proofs.Common.{◌≡◌, All, map, take}
use Rattle.ffc_cert.specs.Ranges.{IsLine}
use Rattle.ffc_refutation.specs.Forcing.{line_of}
use Rattle.ffc_lemmatree.proofs.reasons.lines_of.Given as goal

abbrev pub invariant-loop-reason : goal.invariant-loop-reason
invariant-loop-reason l = record {
  lines : l.lines.items ≡ map line_of (take l.reason-index l.reasons);
  ranges : All (λ r. IsLine (line_of r)) (take l.reason-index l.reasons);
}
