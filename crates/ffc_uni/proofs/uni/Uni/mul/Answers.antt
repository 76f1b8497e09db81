use Rattle.std.proofs.Common.{◌%◌, ap₂, ◌∙◌}
use Rattle.ffc_uni.specs.Univariate.{SameUnivariate, coefficient_at, times}
use Rattle.ffc_uni.proofs.ValueLemmas.{one_value, value_of-times}
use Rattle.ffc_uni.proofs.uni.Uni.mul.Goals as goal

pub returns-clause-value : goal.returns-clause-value
returns-clause-value g c =
    let p = g.F.Field.ORDER in
    let a = c.args.self.now in
    let b = c.args.other.now in
    let same : SameUnivariate p c.from_row.result (times a b) = λ k.
    c.from_row.ensures.same k
    ∙ c.in_ok-multiply_into.ensures.product k
    ∙ ap₂ (λ l m. coefficient_at (times l m) k % p) c.coefs.ensures.value c.coefs-2.ensures.value in
    λ x. one_value p x c.from_row.result (times a b) same ∙ value_of-times p x a b
