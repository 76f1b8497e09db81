use Rattle.std.proofs.Common.{◌≡◌, ◌∷◌, [], ◌++◌, map, ap, ◌∙◌, subst, arith, mod-eq_of_lt}
use Rattle.std.proofs.lemmas.Result.{IfOk-weaker}
use Rattle.ffc_ring.specs.Polynomial.{SamePolynomial, product}
use Rattle.ffc_uni.specs.Univariate.{terms_in}
use Rattle.ffc_trees.specs.Normal.{IsNormal}
use Rattle.ffc_ckpoly.proofs.DegreeLemmas.{degree_within}
use Rattle.ffc_cktree.proofs.SumLemmas.{if_both}
use Rattle.ffc_cktree.proofs.BitLemmas.{times_one, low_within}
use Rattle.ffc_cktree.proofs.bits.polynomial_of.Goals as goal

pub returns-clause-same : goal.returns-clause-same
returns-clause-same g c =
    let value = g.F.Field.value in
    let p = g.F.Field.ORDER in
    let written = c.args.written.now in
    let one = c.in_ok-one.one in
    let sum = c.in_ok-sum.sum in
    let items : c.as_slice.result.now ≡ c.of.result ∷ [] = c.as_slice.ensures.value ∙ c.in_ok-push.ensures.items ∙ ap (λ l. l ++ c.of.result ∷ []) c.new-unit.ensures.items in
    let unit : map value c.as_slice.result.now ≡ 1 ∷ [] =
    ap (map value) items ∙ ap (λ k. k ∷ []) (c.of.ensures ∙ mod-eq_of_lt (omega (arith, g.met.F.Field.prime.least))) in
    let is_one : SamePolynomial p one ((1, []) ∷ []) = subst (λ a. SamePolynomial p one (terms_in 0 a)) unit c.in_ok-one.ensures.sum in
    let is_product : SamePolynomial p sum (product written one) = subst (λ l. SamePolynomial p sum (l ++ product written one)) c.new.ensures c.in_ok-sum.ensures in
    IfOk-weaker c.total.result _ (λ r. SamePolynomial p r written)
    (λ r h m. h m ∙ is_product m ∙ times_one p written one c.requires.terms_are is_one m) c.total.ensures.sum

pub returns-clause-low : goal.returns-clause-low
returns-clause-low g c =
    let p = g.F.Field.ORDER in
    let written = c.args.written.now in
    if_both (λ r. SamePolynomial p r written) (IsNormal p) _ c.total.result
    (λ r h n. degree_within 1024 p r written (omega (arith, g.met.F.Field.prime.least)) n h (low_within written c.requires.low))
    (returns-clause-same g c) c.total.ensures.normal
