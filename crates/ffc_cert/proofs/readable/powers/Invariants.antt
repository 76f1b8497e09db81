use Rattle.std.proofs.Common.{◌≡◌, ◌-◌}
use Rattle.ffc_cert.specs.Items.{powers_at}
use Rattle.ffc_cert.proofs.LoopLemmas.{with_front}
use Rattle.ffc_cert.proofs.readable.powers.Given as goal

abbrev pub invariant-loop : goal.invariant-loop
invariant-loop l =
    with_front l.read.items (powers_at l.least (l.count - l.counter) l.items) ≡ powers_at 0 l.count l.fn.items
