use Rattle.std.proofs.Common.{◌<◌, ◌+◌, ◌%◌, [], get_or, length, drop, refl, sym, ap, ◌∙◌, arith}
use Rattle.std.proofs.lemmas.List.{drop_more}
use Rattle.ffc_field.specs.Modular.{add_mod, mul_mod}
use Rattle.ffc_ring.specs.Monomial.{mono_value}
use Rattle.ffc_ring.specs.Polynomial.{value_sum}
use Rattle.ffc_poly.specs.Ordered.{point_of}
use Rattle.ffc_ring.proofs.ValueLemmas.{term_taken}
use Rattle.ffc_poly.proofs.values.value_at.Goals as goal

pub loop-i-preserved : goal.loop-i-preserved
loop-i-preserved g c =
    let value = g.F.Field.value in
    let p = g.F.Field.ORDER in
    let point = point_of value c.args.at.now in
    let ts = c.args.terms.now in
    let t = get_or ts c.loop-i.i (0, []) in
    let low : c.loop-i.i < length ts = omega (arith, c.loop-i-test.true, c.len-i-end.ensures) in
    term_taken p point (value c.loop-i.sum) (value c.add_scaled-sum.result) (value c.monomial_value.result) (mul_mod p t.0 (value c.monomial_value.result)) t (drop (c.loop-i.i + 1) ts)
    (c.monomial_value.ensures ∙ ap (λ k. mono_value point k % p) (c.pairs.ensures.value ∙ c.get-c.ensures.monomial))
    refl
    (c.add_scaled-sum.ensures ∙ ap (λ k. add_mod p (value c.loop-i.sum) (mul_mod p k (value c.monomial_value.result))) c.get-c.ensures.coefficient)
    ∙ ap (λ k. (value c.loop-i.sum + value_sum point k) % p) (sym (drop_more ts c.loop-i.i (0, []) low)) ∙ c.loop-i.invariant
