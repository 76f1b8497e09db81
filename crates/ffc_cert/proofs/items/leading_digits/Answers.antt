use Rattle.std.proofs.Common.{ℕ, ◌+◌, ap}
use Rattle.ffc_cert.proofs.NumberLemmas.{front_more}
use Rattle.ffc_cert.proofs.items.leading_digits.Goals as goal

pub loop-digit-preserved : goal.loop-digit-preserved
loop-digit-preserved c =
    let was = c.loop-digit.invariant in
    let here = c.in-Some.ensures in
    let next = front_more c.args.bytes.now c.loop-digit.count c.loop-digit.digit-index c.loop-digit.number c.in-Some.longer was.0 c.loop-digit-test.true was.1 was.2 here.0 here.1 in
    (ap (λ (n : ℕ). n + 1) was.0, next.0, next.1)
