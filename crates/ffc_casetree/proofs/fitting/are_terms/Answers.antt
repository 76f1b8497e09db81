use Rattle.std.proofs.Common.{subst}
use Rattle.ffc_cert.specs.Ranges.{IsTerm}
use Rattle.ffc_casetree.proofs.RangeLemmas.{each_more}
use Rattle.ffc_casetree.proofs.fitting.are_terms.Goals as goal

pub loop-term-preserved : goal.loop-term-preserved
loop-term-preserved c =
    let x = c.term-item.result in
    each_more IsTerm c.args.terms.now c.loop-term.term-index x c.loop-term-test.true c.term-item.is c.loop-term.invariant
    (subst (λ ys. IsTerm (x.0, ys)) c.as_slice.ensures (c.is_term.ensures c.if-not-is_term.false))
