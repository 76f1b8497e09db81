use Rattle.std.proofs.Common.{◌≡◌, ◌++◌, ◌∙◌, length, map, take, drop, ap, ap₂, subst, mod-eq_of_lt}
use Rattle.ffc_field.specs.Modular.{neg_mod}
use Rattle.ffc_echelon.specs.Buffers.{raised}
use Rattle.ffc_echelon.specs.Progress.{IsSumOf}
use Rattle.ffc_echelon.proofs.Buffers.{written_back}
use Rattle.ffc_echelon.proofs.Contradictions.{rest_is_sum}
use Rattle.ffc_echelon.proofs.elimination.contradiction.Goals as goal

pub returns : goal.returns
returns g c = λ vectors vector rest long made at sum.
    let value = g.F.Field.value in
    let p = g.F.Field.ORDER in
    let two = g.met.F.Field.prime.least in
    let ms = map (λ m. (m.0, value m.1)) c.args.multipliers.now in
    let items = c.in_ok-coefficients.coefficients.items in
    let one : value c.of.result ≡ 1 = c.of.ensures ∙ mod-eq_of_lt two in
    let more : value c.of-2.result ≡ 1 = c.of-2.ensures ∙ mod-eq_of_lt two in
    let scale : value c.neg.result ≡ neg_mod p 1 = c.neg.ensures ∙ ap (neg_mod p) one in
    let new = take c.in_ok-coefficients.coefficients.len (c.add_at.new.buffer ++ drop (length c.add_at.new.buffer) items) in
    let is : map value new ≡ raised p (map value items) c.args.input 1 =
    ap (map value) (written_back c.in_ok-coefficients.coefficients.len c.add_at.new.buffer items (c.add_at.auto.buffer ∙ c.as_mut_slice.ensures.len))
    ∙ c.add_at.ensures
    ∙ ap₂ (λ l x. raised p (map value l) c.args.input x) c.as_mut_slice.ensures.value more in
    rest_is_sum p vectors c.args.rows.now vector rest ms (map value items) (map value new) c.args.input two at sum
    (subst (λ s. IsSumOf p vectors c.args.rows.now s ms (map value items)) scale (c.in_ok-coefficients.ensures vectors long made sum.there)) is
