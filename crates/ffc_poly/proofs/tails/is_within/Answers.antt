use Rattle.std.proofs.Common.{◌≡◌, ◌+◌, ◌∷◌, ◌++◌, [], length, take, ap, arith, length-append}
use Rattle.ffc_poly.specs.Ordered.{sum_of}
use Rattle.ffc_poly.proofs.Lists.{taken_at}
use Rattle.ffc_poly.proofs.TermLemmas.{sum_of-append}
use Rattle.ffc_poly.proofs.tails.is_within.Goals as goal

pub loop-tail-preserved : goal.loop-tail-preserved
loop-tail-preserved g c =
    let ts = c.args.tails.now in
    let i = c.loop-tail.tail-index in
    let t = c.tail-item.result in
    let now : take (i + 1) ts ≡ take i ts ++ t ∷ [] = taken_at ts i t c.loop-tail-test.true c.tail-item.is in
    omega (
      arith,
      c.loop-tail.invariant,
      ap (λ k. length (sum_of k)) now,
      ap length (sum_of-append (take i ts) (t ∷ [])),
      length-append (sum_of (take i ts)) (sum_of (t ∷ [])),
      length-append t [],
      c.len-count.ensures,
      c.if-count-left.false,
    )
