use Rattle.std.proofs.Common.{◌≡◌, ◌+◌, ◌<◌, ◌++◌, [], length, drop, sym, ap, ◌∙◌, subst}
use Rattle.std.proofs.lemmas.Bool.{ltb-true}
use Rattle.ffc_ring.specs.Polynomial.{AreTerms, SamePolynomial, product}
use Rattle.ffc_trees.specs.TreeLines.{Multiple, line_at, is_there, sum_of_multiples}
use Rattle.ffc_cktree.specs.Lines.{are_low}
use Rattle.ffc_cktree.proofs.SumLemmas.{left_at, get_or-any, all_parts, added}
use Rattle.ffc_cktree.proofs.sums.total.Goals as goal

pub with_multiple-requires-clause-terms_are : goal.with_multiple-requires-clause-terms_are
with_multiple-requires-clause-terms_are g c =
    subst AreTerms (sym (c.as_slice.ensures ∙ ap (λ m. m.1) c.multiple-item.is)) (c.requires.terms_are c.loop-multiple.multiple-index c.multiple-item.result c.loop-multiple-test.true)

pub loop-multiple-preserved : goal.loop-multiple-preserved
loop-multiple-preserved g c =
    let p = g.F.Field.ORDER in
    let lines = c.args.lines.now in
    let ms = c.args.multiples.now in
    let x = c.multiple-item.result in
    let i = c.loop-multiple.multiple-index in
    let inv = c.loop-multiple.invariant in
    let old = c.loop-multiple.sum in
    let left = left_at ms i x c.loop-multiple-test.true c.multiple-item.is in
    let parts = all_parts (λ (m : Multiple). is_there lines m.0) ms i x c.loop-multiple-test.true c.multiple-item.is inv.there in
    let within : x.0 < length lines = ltb-true x.0 (length lines) parts.0 in
    let line : c.index-lines-multiple.result ≡ line_at lines x.0 = c.index-lines-multiple.is ∙ get_or-any lines x.0 _ [] within in
    record {
      there = parts.1;
      low = (all_parts (λ (m : Multiple). are_low m.1) ms i x c.loop-multiple-test.true c.multiple-item.is inv.low).1;
      so_far = added p c.in_ok-sum.sum old (product x.1 (line_at lines x.0)) (sum_of_multiples lines (drop (i + 1) ms)) (sum_of_multiples lines ms)
          (subst (λ k. SamePolynomial p c.in_ok-sum.sum (old ++ product x.1 k)) line (subst (λ k. SamePolynomial p c.in_ok-sum.sum (old ++ product k c.index-lines-multiple.result)) c.as_slice.ensures c.in_ok-sum.ensures))
          (subst (λ k. SamePolynomial p (old ++ sum_of_multiples lines k) (sum_of_multiples lines ms)) left inv.so_far);
    }
