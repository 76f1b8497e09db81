use Rattle.std.proofs.Common.{◌-◌, refl, ◌∙◌}
use Rattle.ffc_uni.specs.Univariate.{multiple, times}
use Rattle.ffc_uni.proofs.Coefficients.{multiple_alike, plus_alike}
use Rattle.ffc_roots.proofs.bezout.left_over.Goals as goal

pub returns-clause-step : goal.returns-clause-step
returns-clause-step g c =
    let p = g.F.Field.ORDER in
    let before = c.args.first.now.b in
    let product = c.in_ok-mul.field-0 in
    let wanted = times c.in_ok-quotient.quotient c.args.second.now.b in
    record {
      quotient = c.in_ok-quotient.quotient;
      value = c.in_ok-quotient.ensures.division;
      cofactor = λ k.
          c.in_ok-b.ensures.difference k
          ∙ plus_alike p before before (multiple (p - 1) product) (multiple (p - 1) wanted) (λ j. refl) (multiple_alike p (p - 1) product wanted c.in_ok-mul.ensures.product) k;
    }
