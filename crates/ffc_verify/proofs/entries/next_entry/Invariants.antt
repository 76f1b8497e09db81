use Rattle.std.proofs.Common.{◌≤◌}
use Rattle.std.specs.Option.{IfSome}
use Rattle.ffc_verify.specs.Reading.{TakesPieces}
use Rattle.ffc_verify.proofs.PieceLemmas.{HasReadOn}
use Rattle.ffc_verify.proofs.entries.next_entry.Given as goal

abbrev pub invariant-loop : goal.invariant-loop
invariant-loop g l =
    HasReadOn l.fn.entries (g.C.Source.left l.fn.cert) l.entries (g.C.Source.left l.cert) × (g.C.Source.faults l.fn.cert ≤ g.C.Source.faults l.cert)
    × IfSome (g.C.Source.left l.fn.cert) (λ bytes. TakesPieces l.fn.entries bytes (g.C.Source.left l.cert))
