use Rattle.std.proofs.Common.{◌≡◌, ◌-◌, length}
use Rattle.ffc_cert.specs.Items.{many_at}
use Rattle.ffc_cert.proofs.LoopLemmas.{with_front}
use Rattle.ffc_cert.proofs.readable.many.Given as goal

abbrev pub invariant-loop : goal.invariant-loop
invariant-loop g l =
    (with_front l.read.items (many_at g.T.Readable.at (l.count - l.counter) l.items) ≡ many_at g.T.Readable.at l.count l.fn.items)
    × (length l.read.items ≡ l.counter)
