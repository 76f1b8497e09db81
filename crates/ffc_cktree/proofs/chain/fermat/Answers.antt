use Rattle.std.proofs.Common.{◌≡◌, ◌≤◌, ◌∷◌, [], length, map, subst, sym, ap, ◌∙◌, arith}
use Rattle.ffc_ring.specs.Polynomial.{SamePolynomial, difference}
use Rattle.ffc_uni.specs.Univariate.{SameUnivariate, indeterminate}
use Rattle.ffc_trees.specs.Normal.{IsNormal, degree_of}
use Rattle.ffc_trees.specs.TreeLines.{fermat_line}
use Rattle.ffc_trees.specs.Same.{IsSameLine}
use Rattle.ffc_ckpoly.proofs.DegreeLemmas.{degree_of_difference}
use Rattle.ffc_cktree.proofs.SumLemmas.{if_both}
use Rattle.ffc_cktree.proofs.ChainLemmas.{fermat_is, variable_row}
use Rattle.ffc_cktree.proofs.chain.fermat.Goals as goal

pub returns-clause-same : goal.returns-clause-same
returns-clause-same g c =
    let value = g.F.Field.value in
    let p = g.F.Field.ORDER in
    let x = c.args.x in
    let whole = c.in_ok-whole.whole in
    let line = c.in_ok-line.line in
    let r = map value c.args.power.now in
    let row = map value c.as_slice.result.now in
    let variable : row ≡ value c.of.result ∷ value c.of-2.result ∷ [] = ap (map value) (c.as_slice.ensures.value ∙ c.in_ok-variable.ensures) in
    let is : SameUnivariate p row indeterminate = subst (λ a. SameUnivariate p a indeterminate) (sym variable) (variable_row p (value c.of.result) (value c.of-2.result) c.of.ensures c.of-2.ensures) in
    if_both (λ s. SamePolynomial p s (difference p whole line)) (IsNormal p) (λ s. IsSameLine p s (fermat_line p x r)) c.sub.result
    (λ s same n. fermat_is p x r row whole line s (omega (arith, g.met.F.Field.prime.least)) n same c.in_ok-whole.ensures.sum c.in_ok-line.ensures.sum is) c.sub.ensures.difference c.sub.ensures.normal

pub returns-clause-low : goal.returns-clause-low
returns-clause-low g c =
    let p = g.F.Field.ORDER in
    let whole = c.in_ok-whole.whole in
    let line = c.in_ok-line.line in
    let first : degree_of whole ≤ 1024 = omega (arith, c.in_ok-whole.ensures.low, c.requires) in
    let second : degree_of line ≤ 1024 = omega (arith, c.in_ok-line.ensures.low, ap length (c.as_slice.ensures.value ∙ c.in_ok-variable.ensures)) in
    if_both (λ s. SamePolynomial p s (difference p whole line)) (IsNormal p) (λ s. degree_of s ≤ 1024) c.sub.result
    (λ s same n. degree_of_difference 1024 p s whole line (omega (arith, g.met.F.Field.prime.least)) n same first second) c.sub.ensures.difference c.sub.ensures.normal
