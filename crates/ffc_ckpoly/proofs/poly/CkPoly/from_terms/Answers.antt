use Rattle.std.proofs.Common.{◌%◌, ◌+◌, ◌++◌, ◌∷◌, [], drop, sym, ap, ◌∙◌, subst}
use Rattle.std.proofs.lemmas.Result.{IfOk-weaker}
use Rattle.ffc_ring.specs.Monomial.{IsMonomial}
use Rattle.ffc_ring.specs.Polynomial.{AreTerms, SamePolynomial, written}
use Rattle.ffc_ckpoly.specs.Flat.{cut, HaveMonomials, as_written}
use Rattle.ffc_ckpoly.proofs.Lists.{pushed, left_at}
use Rattle.ffc_ckpoly.proofs.SortedLemmas.{all_written, append_monomials}
use Rattle.ffc_ckpoly.proofs.poly.CkPoly.from_terms.Goals as goal

pub loop-term-preserved : goal.loop-term-preserved
loop-term-preserved g c =
    let value = g.F.Field.value in
    let x = c.term-item.result in
    let inv = c.loop-term.invariant in
    let m = c.as_slice-powers.result.now in
    let old = cut value 0 c.loop-term.buffer.marks.items c.loop-term.buffer.powers.items in
    let more = as_written value (drop (c.loop-term.term-index + 1) c.args.terms.now) (λ v. v.items) in
    let left = left_at c.args.terms.now c.loop-term.term-index x c.loop-term-test.true c.term-item.is in
    let first : AreTerms ((value x.0, x.1.items) ∷ more) = subst (λ k. AreTerms (as_written value k (λ v. v.items))) left inv.rest in
    let all = c.in_ok-push_written.ensures.terms in
    record {
      parts = c.in_ok-push_written.ensures.parts;
      rest = first.1;
      monomials = subst HaveMonomials (sym all)
          (append_monomials old ((value x.0, m) ∷ []) inv.monomials (subst IsMonomial (sym c.as_slice-powers.ensures.value) first.0, c.written_degree-degree.ensures.fits, tt));
      so_far = pushed _ _ _ _ _ all
          (ap (λ n. old ++ ((value x.0, n) ∷ more)) c.as_slice-powers.ensures.value
          ∙ ap (λ k. old ++ as_written value k (λ v. v.items)) (sym left) ∙ inv.so_far);
    }

pub returns-clause-sum : goal.returns-clause-sum
returns-clause-sum g c =
    let value = g.F.Field.value in
    let p = g.F.Field.ORDER in
    let all = cut value 0 c.loop-term.buffer.marks.items c.loop-term.buffer.powers.items in
    IfOk-weaker c.sum_in.result _ (λ r. SamePolynomial p r (as_written value c.args.terms.now (λ v. v.items)))
    (λ r h m. h m ∙ ap (λ k. written k m % p) (all_written value (λ v. v.items) all c.loop-term.term-index c.args.terms.now c.loop-term-test.false c.loop-term.invariant.so_far)) c.sum_in.ensures.sum
