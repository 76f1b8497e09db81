use Rattle.std.proofs.Common.{◌++◌, refl}
use Rattle.ffc_ring.specs.Polynomial.{scaled}
use Rattle.ffc_ring.proofs.PolynomialLemmas.{same_sums}
use Rattle.ffc_poly.specs.Ordered.{sum_of}
use Rattle.ffc_poly.proofs.Clauses.{IfOk-same}
use Rattle.ffc_poly.proofs.tails.merged_with_multiple.Goals as goal

pub returns-clause-same : goal.returns-clause-same
returns-clause-same g c =
    let p = g.F.Field.ORDER in
    let whole = c.in_ok-whole.whole in
    let all = sum_of c.args.tails.now in
    let multiple = scaled (g.F.Field.value c.args.c) c.args.terms.now in
    IfOk-same p c.add_scaled.result (whole ++ multiple) (all ++ multiple) (same_sums p whole all multiple multiple c.in_ok-whole.ensures.same (λ _. refl)) c.add_scaled.ensures.same
