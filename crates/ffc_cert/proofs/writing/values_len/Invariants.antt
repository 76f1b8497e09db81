use Rattle.std.proofs.Common.{◌≡◌, ◌-◌, ◌^◌, length, min, take}
use Rattle.std.specs.List.{flat_map}
use Rattle.ffc_cert.specs.Spelling.{value_line}
use Rattle.ffc_cert.proofs.writing.values_len.Given as goal

abbrev pub invariant-loop-value : goal.invariant-loop-value
invariant-loop-value l = l.total ≡ min (length (flat_map value_line (take l.value-index l.values))) (2 ^ 64 - 1)
