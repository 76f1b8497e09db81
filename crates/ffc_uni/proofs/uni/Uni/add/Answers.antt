use Rattle.std.proofs.Common.{◌≡◌, ◌%◌, refl, ap, ◌∙◌}
use Rattle.std.proofs.Math.Nat.{mod-mod}
use Rattle.std.proofs.lemmas.Result.{IfOk-weaker}
use Rattle.ffc_uni.specs.Univariate.{SameUnivariate, plus, multiple}
use Rattle.ffc_uni.proofs.Coefficients.{plus_alike, multiple_by_one}
use Rattle.ffc_uni.proofs.uni.Uni.add.Goals as goal

pub returns-clause-sum : goal.returns-clause-sum
returns-clause-sum g c =
    let p = g.F.Field.ORDER in
    let one = g.F.Field.value c.of.result in
    let a = c.args.self.now in
    let b = c.args.other.now in
    let same : one % p ≡ 1 % p = ap (λ n. n % p) c.of.ensures ∙ mod-mod 1 p in
    IfOk-weaker c.with_multiple.result (λ r. SameUnivariate p r (plus a (multiple one b))) (λ r. SameUnivariate p r (plus a b))
    (λ r sum k. sum k ∙ plus_alike p a a (multiple one b) b (λ j. refl) (multiple_by_one p one b same) k)
    c.with_multiple.ensures.sum
