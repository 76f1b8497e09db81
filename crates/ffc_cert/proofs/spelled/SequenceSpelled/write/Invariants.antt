use Rattle.std.proofs.Common.{◌≡◌, ◌++◌, length, take}
use Rattle.std.specs.List.{flat_map}
use Rattle.ffc_cert.specs.Spelling.{number}
use Rattle.ffc_cert.proofs.spelled.SequenceSpelled.write.Given as goal

abbrev pub invariant-loop-item : goal.invariant-loop-item
invariant-loop-item g l =
    l.out.items ≡ l.fn.out.items ++ (number (length l.items) ++ flat_map g.T.Spelled.text (take l.item-index l.items))
