use Rattle.std.proofs.Common.{◌≡◌, ◌+◌, ◌*◌, ◌/◌, ◌%◌, ◌^◌, ap, ap₂, ◌∙◌, arith}
use Rattle.ffc_field.specs.Modular.{add_mod, mul_mod}
use Rattle.ffc_uni.proofs.Convolutions.{in_words}
use Rattle.ffc_uni.proofs.coefficient.reduced.Goals as goal

pub returns : goal.returns
returns g c =
    let p = g.F.Field.ORDER in
    let word = c.args.low % 2 ^ 64 in
    let rest = c.args.low / 2 ^ 64 + c.args.high in
    let square = c.mul.ensures ∙ ap₂ (mul_mod p) c.of-half.ensures c.of-half.ensures in
    c.add_scaled.ensures
    ∙ ap (λ n. add_mod p n (mul_mod p (g.F.Field.value c.mul.result) (g.F.Field.value c.of-rest.result))) c.of.ensures
    ∙ ap₂ (λ n m. add_mod p (word % p) (mul_mod p n m)) square c.of-rest.ensures
    ∙ in_words p word rest (2 ^ 32)
    ∙ ap (λ n. n % p) (let same : word + 2 ^ 32 * 2 ^ 32 * rest ≡ c.args.low + 2 ^ 64 * c.args.high = omega arith in same)
