use Rattle.std.proofs.Common.{◌≡◌, ◌-◌}
use Rattle.ffc_cert.specs.Items.{variables_at}
use Rattle.ffc_cert.proofs.LoopLemmas.{with_front}
use Rattle.ffc_cert.proofs.readable.variables.Given as goal

abbrev pub invariant-loop : goal.invariant-loop
invariant-loop l =
    with_front l.read.items (variables_at l.least (l.count - l.counter) l.items) ≡ variables_at 0 l.count l.fn.items
