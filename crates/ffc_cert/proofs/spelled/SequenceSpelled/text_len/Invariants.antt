use Rattle.std.proofs.Common.{◌≡◌, ◌-◌, ◌^◌, ◌++◌, length, min, take}
use Rattle.std.specs.List.{flat_map}
use Rattle.ffc_cert.specs.Spelling.{number}
use Rattle.ffc_cert.proofs.spelled.SequenceSpelled.text_len.Given as goal

abbrev pub invariant-loop-item : goal.invariant-loop-item
invariant-loop-item g l =
    l.total ≡ min (length (number (length l.items) ++ flat_map g.T.Spelled.text (take l.item-index l.items))) (2 ^ 64 - 1)
