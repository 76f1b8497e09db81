use Rattle.std.proofs.Common.{◌≡◌, ◌+◌, max, [], ◌∷◌, ◌++◌, get_or, sym, ap, ◌∙◌, take, subst, arith, inl, inr}
use Rattle.std.proofs.lemmas.Bool.{cases_lt}
use Rattle.std.proofs.lemmas.List.{take_more}
use Rattle.ffc_ring.specs.Monomial.{degree}
use Rattle.ffc_poly.specs.Ordered.{AreWithin, HasDegree}
use Rattle.ffc_poly.proofs.Lists.{AreWithin-higher, AreWithin-push, HasDegree-front, HasDegree-last}
use Rattle.ffc_poly.proofs.products.greatest_degree.Goals as goal

pub loop-i-preserved : goal.loop-i-preserved
loop-i-preserved g c =
    let ts = c.args.terms.now in
    let i = c.loop-i.invariant in
    let t = get_or ts c.loop-i.i (0, []) in
    let before = take c.loop-i.i ts in
    let now : take (c.loop-i.i + 1) ts ≡ before ++ t ∷ [] = take_more ts c.loop-i.i (0, []) (omega (arith, c.loop-i-test.true, c.len-i-end.ensures)) in
    let its : c.degree.result ≡ degree t.1 = c.degree.ensures.value ∙ ap degree c.get.ensures.monomial in
    let greatest : c.max-greatest.result ≡ max (degree t.1) c.loop-i.greatest = c.max-greatest.ensures ∙ ap (λ k. max k c.loop-i.greatest) its in
    record {
      within = subst (AreWithin c.max-greatest.result) (sym now)
          (AreWithin-push c.max-greatest.result before t (AreWithin-higher c.loop-i.greatest c.max-greatest.result before i.within (omega (arith, greatest))) (omega (arith, greatest)));
      reached = λ some. subst (HasDegree c.max-greatest.result) (sym now)
          (elim (cases_lt (degree t.1) c.loop-i.greatest) [
            | inl less ↦
                let stays : c.loop-i.greatest ≡ c.max-greatest.result = omega (arith, greatest) in
                HasDegree-front c.max-greatest.result before _ (subst (λ d. HasDegree d before) stays (i.reached (omega arith)))
            | inr not_less ↦ HasDegree-last c.max-greatest.result before t (omega (arith, greatest))
          ]);
      limit = omega (arith, greatest, i.limit, its, c.degree.ensures.fits);
    }
