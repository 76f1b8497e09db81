use Rattle.std.proofs.Common.{arith}
use Rattle.ffc_cert.proofs.KeptLemmas.{kept_fed}
use Rattle.ffc_cert.proofs.reading.CertReader.feed.Goals as goal

pub invariant_of-self-2 : goal.invariant_of-self-2
invariant_of-self-2 c =
    let i = c.self-2.inside in
    let k = c.self-2.invariant in
    let version = rw (c.deref.ensures.value, c.in_ok-extend_from_slice.ensures.items) at c.version_after-self-inside.ensures in
    rw (c.append.ensures, c.in_ok-extend_from_slice.ensures.items)
    (kept_fed i.bits i.wanted i.given i.fed.bytes c.args.piece.now i.window.items i.fault i.scanner i.version c.version_after-self-inside.result k
    (omega (arith, c.if-piece-length.false, c.len.ensures, i.window.ok, k.window.size, k.size)) version)
