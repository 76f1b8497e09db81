use Rattle.std.proofs.Common.{◌-◌, ◌≤◌, max, length, refl, ◌∙◌, arith}
use Rattle.ffc_roots.proofs.Cases.{IfOk-both}
use Rattle.ffc_uni.specs.Univariate.{SameUnivariate, minus, multiple, times}
use Rattle.ffc_uni.proofs.Coefficients.{plus_alike, multiple_alike}
use Rattle.ffc_single.specs.Euclid.{IsLessMultiple}
use Rattle.ffc_single.proofs.euclid.less_multiple.Goals as goal

pub returns : goal.returns
returns g c =
    let p = g.F.Field.ORDER in
    let first = c.args.first.now in
    let product = c.in_ok-mul.field-0 in
    let wanted = times c.args.quotient.now c.args.second.now in
    let product_short = c.in_ok-mul.ensures.short in
    IfOk-both c.sub-2.result (λ r. SameUnivariate p r (minus p first product)) (λ r. length r ≤ max (length first) (length product)) (IsLessMultiple p first c.args.quotient.now c.args.second.now)
    (λ r same short. record {
      same = λ k. same k ∙ plus_alike p first first (multiple (p - 1) product) (multiple (p - 1) wanted) (λ j. refl) (multiple_alike p (p - 1) product wanted c.in_ok-mul.ensures.product) k;
      short = omega (arith, short, product_short);
    })
    c.sub-2.ensures.difference c.sub-2.ensures.short
