use Rattle.std.proofs.Common.{◌≡◌, ◌+◌, ◌*◌, ◌/◌, ◌%◌, map, drop, sym, ap, ap₂, ◌∙◌, arith}
use Rattle.ffc_field.specs.Modular.{add_mod, mul_mod}
use Rattle.ffc_uni.specs.Rows.{shifted}
use Rattle.ffc_uni.specs.Univariate.{coefficient_at, times}
use Rattle.ffc_uni.proofs.Convolutions.{coefficient_read, doubled, doubled_with, square_even, square_odd}
use Rattle.ffc_uni.proofs.coefficient.coefficient_of_square.Goals as goal

pub returns-then-place-eq1 : goal.returns-then-place-eq1
returns-then-place-eq1 g c =
    let p = g.F.Field.ORDER in
    let a = map g.F.Field.value c.args.a.now in
    let place = c.args.place in
    let middle = place / 2 in
    let above = coefficient_at (shifted (middle + 1) (times (drop (middle + 1) a) a)) place in
    c.add-twice.ensures
    ∙ ap₂ (add_mod p) c.coefficient_from-above.ensures c.coefficient_from-above.ensures
    ∙ doubled p above
    ∙ ap (λ n. n % p) (sym (square_odd a place middle (omega arith)))

pub returns : goal.returns
returns g c =
    let value = g.F.Field.value in
    let p = g.F.Field.ORDER in
    let a = map value c.args.a.now in
    let place = c.args.place in
    let middle = place / 2 in
    let x = c.index-a-middle.result in
    let above = coefficient_at (shifted (middle + 1) (times (drop (middle + 1) a) a)) place in
    let read : coefficient_at a middle ≡ value x = coefficient_read value c.args.a.now middle x (omega (arith, c.requires)) c.index-a-middle.is in
    c.add_scaled.ensures
    ∙ ap (λ n. add_mod p n (mul_mod p (value x) (value x))) (c.add-twice.ensures ∙ ap₂ (add_mod p) c.coefficient_from-above.ensures c.coefficient_from-above.ensures)
    ∙ doubled_with p above (value x)
    ∙ ap (λ n. (2 * above + n) % p) (ap₂ ◌*◌ (sym read) (sym read))
    ∙ ap (λ n. n % p) (sym (square_even a place middle (omega arith)))
