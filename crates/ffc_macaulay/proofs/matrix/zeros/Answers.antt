use Rattle.std.proofs.Common.{◌≡◌, ◌-◌, ◌++◌, [], vec_len, map, take, replicate, ap, ◌∙◌, arith, mod-eq_of_lt}
use Rattle.std.proofs.lemmas.List.{take_all}
use Rattle.ffc_echelon.proofs.Buffers.{map-zeros}
use Rattle.ffc_macaulay.proofs.matrix.zeros.Goals as goal

pub returns : goal.returns
returns g c =
    let value = g.F.Field.value in
    let p = g.F.Field.ORDER in
    let count = c.args.count in
    let zero = c.of.result in
    let none : value zero ≡ 0 = c.of.ensures ∙ mod-eq_of_lt (omega (arith, g.met.F.Field.prime.least)) in
    let room : count - vec_len c.new-buffer.result ≡ count = omega (arith, c.new-buffer.ensures.len) in
    ap (map value)
    (c.in_ok-resize.ensures.items
    ∙ ap (λ l. take count l ++ replicate (count - vec_len c.new-buffer.result) zero) c.new-buffer.ensures.items
    ∙ ap (λ l. l ++ replicate (count - vec_len c.new-buffer.result) zero) (take_all count [] (omega arith))
    ∙ ap (λ n. replicate n zero) room)
    ∙ map-zeros value count zero none
