use Rattle.std.proofs.Common.{◌≡◌, ◌%◌, [], length, map, sym, ap, ◌∙◌, arith}
use Rattle.std.proofs.lemmas.Bool.Decides.{nat_tests}
use Rattle.std.proofs.lemmas.List.{nil_from_length}
use Rattle.ffc_uni.specs.Univariate.{coefficient_at, times}
use Rattle.ffc_uni.proofs.Convolutions.{times_nothing}
use Rattle.ffc_uni.proofs.row.multiply_into.Goals as goal

pub returns-then-is_empty-clause-product : goal.returns-then-is_empty-clause-product
returns-then-is_empty-clause-product g c =
    let value = g.F.Field.value in
    let p = g.F.Field.ORDER in
    let a = map value c.args.a.now in
    let none : length c.args.b.now ≡ 0 = grind (arith, nat_tests, sym c.is_empty.ensures ∙ c.if-is_empty.true) in
    λ k.
    ap (λ l. coefficient_at (map value l) k % p) c.clear.ensures.items
    ∙ ap (λ n. n % p) (sym (ap (λ l. coefficient_at (times a (map value l)) k) (nil_from_length c.args.b.now none) ∙ times_nothing a k))
