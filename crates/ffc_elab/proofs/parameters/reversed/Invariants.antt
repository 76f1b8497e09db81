use Rattle.std.proofs.Common.{◌≡◌, ◌++◌, length, reverse}
use Rattle.ffc_elab.proofs.parameters.reversed.Given as goal

abbrev pub invariant-loop-name : goal.invariant-loop-name
invariant-loop-name l = reverse l.fn.names ≡ reverse l.names ++ l.others

abbrev pub decreases-loop-name : goal.decreases-loop-name
decreases-loop-name l = length l.names
