use Rattle.std.proofs.Common.{subst}
use Rattle.ffc_cert.specs.Ranges.{IsMultiple}
use Rattle.ffc_casetree.proofs.RangeLemmas.{each_more}
use Rattle.ffc_casetree.proofs.fitting.are_multiples.Goals as goal

pub loop-multiple-preserved : goal.loop-multiple-preserved
loop-multiple-preserved c =
    let x = c.multiple-item.result in
    each_more IsMultiple c.args.multiples.now c.loop-multiple.multiple-index x c.loop-multiple-test.true c.multiple-item.is c.loop-multiple.invariant
    (subst (λ ys. IsMultiple (x.0, ys)) c.as_slice.ensures (c.is_multiple.ensures c.if-not-is_multiple.false))
