use Rattle.std.proofs.Common.{◌≡◌, ◌-◌, ◌%◌, refl, ap, ◌∙◌, mod-eq_of_lt, arith}
use Rattle.std.proofs.Math.Nat.{mod-mod}
use Rattle.std.proofs.lemmas.Result.{IfOk-weaker}
use Rattle.ffc_field.specs.Modular.{neg_mod}
use Rattle.ffc_uni.specs.Univariate.{SameUnivariate, plus, minus, multiple}
use Rattle.ffc_uni.proofs.Coefficients.{plus_alike, factor_alike}
use Rattle.ffc_uni.proofs.uni.Uni.sub.Goals as goal

pub returns-clause-difference : goal.returns-clause-difference
returns-clause-difference g c =
    let p = g.F.Field.ORDER in
    let minus_one = g.F.Field.value c.neg.result in
    let a = c.args.self.now in
    let b = c.args.other.now in
    let one : 1 % p ≡ 1 = mod-eq_of_lt (omega (arith, g.met.F.Field.prime.least)) in
    let same : minus_one % p ≡ (p - 1) % p =
    ap (λ n. n % p) (c.neg.ensures ∙ ap (neg_mod p) (c.of.ensures ∙ one)) ∙ mod-mod (p - 1) p in
    IfOk-weaker c.with_multiple.result (λ r. SameUnivariate p r (plus a (multiple minus_one b))) (λ r. SameUnivariate p r (minus p a b))
    (λ r sum k. sum k ∙ plus_alike p a a (multiple minus_one b) (multiple (p - 1) b) (λ j. refl) (factor_alike p minus_one (p - 1) b same) k)
    c.with_multiple.ensures.sum
