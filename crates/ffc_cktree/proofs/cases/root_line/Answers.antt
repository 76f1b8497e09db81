use Rattle.std.proofs.Common.{◌≡◌, ◌-◌, ◌%◌, ◌∷◌, [], map, subst, sym, ap, ◌∙◌, arith, mod-eq_of_lt}
use Rattle.ffc_ring.specs.Polynomial.{SamePolynomial}
use Rattle.ffc_uni.specs.Univariate.{SameUnivariate, terms_in}
use Rattle.ffc_trees.specs.Normal.{IsNormal}
use Rattle.ffc_trees.specs.TreeLines.{root_line}
use Rattle.ffc_trees.specs.Same.{IsSameLine}
use Rattle.ffc_cktree.proofs.SumLemmas.{if_both}
use Rattle.ffc_cktree.proofs.RowLemmas.{root_factor}
use Rattle.ffc_cktree.proofs.CaseLemmas.{root_is}
use Rattle.ffc_cktree.proofs.cases.root_line.Goals as goal

pub returns-clause-same : goal.returns-clause-same
returns-clause-same g c =
    let value = g.F.Field.value in
    let p = g.F.Field.ORDER in
    let x = c.args.x in
    let a = c.args.root in
    let row = map value c.as_slice.result.now in
    let coefs : row ≡ value c.neg.result ∷ value c.of-2.result ∷ [] = ap (map value) (c.as_slice.ensures.value ∙ c.in_ok-coefs.ensures) in
    let root : value c.of.result ≡ a = c.of.ensures ∙ ap (λ k. k % p) c.from.ensures ∙ mod-eq_of_lt c.requires in
    let is : SameUnivariate p row ((p - a) ∷ 1 ∷ []) =
    subst (λ l. SameUnivariate p l ((p - a) ∷ 1 ∷ [])) (sym coefs) (root_factor p a (value c.neg.result) (value c.of-2.result) (c.neg.ensures ∙ ap (λ k. (p - k) % p) root) c.of-2.ensures) in
    if_both (λ r. SamePolynomial p r (terms_in x row)) (IsNormal p) (λ r. IsSameLine p r (root_line p x a)) c.from_coefficients.result
    (λ r same n. root_is p x a row r (omega (arith, g.met.F.Field.prime.least)) n same is) c.from_coefficients.ensures.sum c.from_coefficients.ensures.normal
