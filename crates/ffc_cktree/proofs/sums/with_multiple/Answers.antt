use Rattle.std.proofs.Common.{◌+◌, ◌++◌, ◌∷◌, drop, subst}
use Rattle.ffc_ring.specs.Polynomial.{AreTerms, SamePolynomial, product, term_product}
use Rattle.ffc_cktree.specs.Lines.{is_low}
use Rattle.ffc_cktree.proofs.SumLemmas.{left_at, all_parts, added}
use Rattle.ffc_cktree.proofs.sums.with_multiple.Goals as goal

pub loop-term-preserved : goal.loop-term-preserved
loop-term-preserved g c =
    let p = g.F.Field.ORDER in
    let x = c.term-item.result in
    let i = c.loop-term.term-index in
    let inv = c.loop-term.invariant in
    let line = c.args.line.now in
    let old = c.loop-term.all in
    let left = left_at c.args.terms.now i x c.loop-term-test.true c.term-item.is in
    let first : AreTerms (x ∷ drop (i + 1) c.args.terms.now) = subst AreTerms left inv.terms_are in
    record {
      terms_are = first.1;
      low = (all_parts (λ t. is_low t.1) c.args.terms.now i x c.loop-term-test.true c.term-item.is inv.low).1;
      so_far = added p c.in_ok-all.all old (term_product x.0 x.1 line) (product (drop (i + 1) c.args.terms.now) line) (c.args.sum ++ product c.args.terms.now line)
          (subst (λ m. SamePolynomial p c.in_ok-all.all (old ++ term_product x.0 m line)) c.as_slice.ensures c.in_ok-all.ensures)
          (subst (λ ts. SamePolynomial p (old ++ product ts line) (c.args.sum ++ product c.args.terms.now line)) left inv.so_far);
    }
