use Rattle.std.proofs.Common.{◌≡◌, All, take}
use Rattle.ffc_lemmatree.specs.Written.{all_case_lines, IsNormalCase}
use Rattle.ffc_lemmatree.proofs.cases.case_lines.Given as goal

abbrev pub invariant-loop-case : goal.invariant-loop-case
invariant-loop-case g l = record {
  lines : l.lines.items ≡ all_case_lines g.F.Field.ORDER l.numbers (take l.case-index l.cases);
  normal : All (IsNormalCase g.F.Field.ORDER) (take l.case-index l.cases);
}
