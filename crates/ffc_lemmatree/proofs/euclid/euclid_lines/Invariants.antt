use Rattle.std.proofs.Common.{◌≡◌, ◌+◌, ◌++◌, All, drop, take}
use Rattle.ffc_lemmatree.specs.Written.{euclid_lines, IsNormalStep}
use Rattle.ffc_lemmatree.proofs.euclid.euclid_lines.Given as goal

abbrev pub invariant-loop-step : goal.invariant-loop-step
invariant-loop-step g l = record {
  lines : l.lines.items ++ euclid_lines l.x l.last l.next (drop l.step-index l.steps) ≡ euclid_lines l.x l.start l.first l.steps;
  numbers : l.next ≡ l.first + l.step-index;
  normal : All (IsNormalStep g.F.Field.ORDER) (take l.step-index l.steps);
}
