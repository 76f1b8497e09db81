use Rattle.std.proofs.Common.{◌≡◌, ◌-◌, ◌^◌, length, min, take}
use Rattle.std.specs.List.{flat_map}
use Rattle.ffc_cert.specs.Spelling.{line_text}
use Rattle.ffc_cert.proofs.writing.lines_len.Given as goal

abbrev pub invariant-loop-line : goal.invariant-loop-line
invariant-loop-line l = l.total ≡ min (length (flat_map line_text (take l.line-index l.lines))) (2 ^ 64 - 1)
