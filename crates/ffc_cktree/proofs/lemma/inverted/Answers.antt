use Rattle.std.proofs.Common.{◌<◌, ◌≤◌, ◌∷◌, [], length, map, subst, sym, ap, ◌∙◌, arith}
use Rattle.ffc_ring.specs.Polynomial.{SamePolynomial, product, difference}
use Rattle.ffc_uni.specs.Univariate.{SameUnivariate, indeterminate}
use Rattle.ffc_trees.specs.Normal.{IsNormal, degree_of}
use Rattle.ffc_trees.specs.NodePolynomials.{variable, constant}
use Rattle.std.proofs.lemmas.Result.{IfOk-weaker}
use Rattle.ffc_cktree.proofs.SumLemmas.{if_both}
use Rattle.ffc_cktree.proofs.ChainLemmas.{variable_row}
use Rattle.ffc_cktree.proofs.FirstLemmas.{inverted_is, inverted_low, unit_row}
use Rattle.ffc_cktree.proofs.lemma.inverted.Goals as goal

pub returns-clause-same : goal.returns-clause-same
returns-clause-same g c =
    let value = g.F.Field.value in
    let p = g.F.Field.ORDER in
    let f = c.args.f.now in
    let w = c.args.w in
    let row = map value c.as_slice.result.now in
    let unit = map value c.as_slice-2.result.now in
    let row_is : SameUnivariate p row indeterminate = subst (λ a. SameUnivariate p a indeterminate) (sym (ap (map value) (c.as_slice.ensures.value ∙ c.in_ok-row.ensures))) (variable_row p (value c.of.result) (value c.of-2.result) c.of.ensures c.of-2.ensures) in
    let unit_is : SameUnivariate p unit (1 ∷ 0 ∷ []) = subst (λ a. SameUnivariate p a (1 ∷ 0 ∷ [])) (sym (ap (map value) (c.as_slice-2.ensures.value ∙ c.in_ok-unit.ensures))) (unit_row p (value c.of-3.result) (value c.of-4.result) c.of-3.ensures c.of-4.ensures) in
    IfOk-weaker c.sub.result _ (λ r. SamePolynomial p r (difference p (product f (variable w)) (constant 1)))
    (λ r h. inverted_is p w f c.in_ok-inverse.inverse c.in_ok-one.one c.in_ok-product.product r row unit c.in_ok-inverse.ensures.sum row_is c.in_ok-one.ensures.sum unit_is c.in_ok-product.ensures.product h) c.sub.ensures.difference

pub returns-clause-small : goal.returns-clause-small
returns-clause-small g c =
    let p = g.F.Field.ORDER in
    let some : 0 < p = omega (arith, g.met.F.Field.prime.least) in
    let f = c.args.f.now in
    let inverse = c.in_ok-inverse.inverse in
    let one = c.in_ok-one.one in
    let all = c.in_ok-product.product in
    let first : degree_of inverse ≤ 1 = omega (arith, c.in_ok-inverse.ensures.low, ap length (c.as_slice.ensures.value ∙ c.in_ok-row.ensures)) in
    let second : degree_of one ≤ 1 = omega (arith, c.in_ok-one.ensures.low, ap length (c.as_slice-2.ensures.value ∙ c.in_ok-unit.ensures)) in
    if_both (λ r. SamePolynomial p r (difference p all one)) (IsNormal p) (λ r. degree_of r ≤ 1024) c.sub.result
    (λ r same n. inverted_low p f inverse one all r some c.requires first second c.in_ok-product.ensures.normal c.in_ok-product.ensures.product n same) c.sub.ensures.difference c.sub.ensures.normal
