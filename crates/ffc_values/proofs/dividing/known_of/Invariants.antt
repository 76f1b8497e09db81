use Rattle.std.proofs.Common.{◌≡◌, drop}
use Rattle.ffc_values.specs.Written as lines
use Rattle.ffc_values.proofs.dividing.known_of.Given as goal

abbrev pub invariant-loop-known : goal.invariant-loop-known
invariant-loop-known l = lines.known_of (drop l.known-index l.knowns) l.variable ≡ lines.known_of l.knowns l.variable
