use Rattle.std.proofs.Common.{◌≡◌, ◌≢◌, ◌+◌, ◌-◌, ◌≤◌, [], ◌∷◌, length, map, refl, arith}
use Rattle.ffc_uni.specs.Univariate.{Coefficients}
use Rattle.ffc_roots.proofs.Cofactors.{cofactors_combine, count_of_roots, scaled_to_product}
use Rattle.ffc_roots.proofs.Degrees.{degree_of_normal, divisor_is_short}
use Rattle.ffc_roots.proofs.Lists.{length-residues}
use Rattle.ffc_roots.proofs.finding.cofactors.Goals as goal

pub returns-clause-identity : goal.returns-clause-identity
returns-clause-identity g c =
    let p = g.F.Field.ORDER in
    let value = g.F.Field.value in
    let f = c.args.f.now in
    let h = c.args.h.now in
    let common = c.args.common.now in
    let roots = map value c.args.roots.now in
    let n = length f - 1 in
    let inverse = value c.leading_inverse-inverse.result in
    cofactors_combine p inverse f h common.b common.value c.in_ok-scale.field-0 c.in_ok-b.field-0-0 c.in_ok-b.b c.in_ok-mul.field-0 c.in_ok-product.product c.in_ok-rest.rest c.in_ok-a.a c.in_ok-a.field-0-1 roots n g.met.F.Field.prime
    (degree_of_normal p f n c.requires.normal (omega (arith, c.requires.f))) c.requires.common.bezout
    (scaled_to_product p inverse common.value roots g.met.F.Field.prime c.leading_inverse-inverse.ensures.normal c.requires.some c.requires.roots c.leading_inverse-inverse.ensures.inverse)
    c.in_ok-scale.ensures.product c.in_ok-b.ensures.division c.in_ok-mul.ensures.product c.in_ok-product.ensures.product c.in_ok-rest.ensures.difference c.in_ok-a.ensures.division (let low = c.in_ok-a.ensures.lower in omega (arith, low, c.requires.f))

pub returns-clause-short : goal.returns-clause-short
returns-clause-short g c =
    let p = g.F.Field.ORDER in
    let value = g.F.Field.value in
    let f = c.args.f.now in
    let common = c.args.common.now in
    let roots = map value c.args.roots.now in
    let b_low = c.in_ok-b.ensures.lower in
    let b_short : length c.in_ok-b.b ≤ length f = omega (arith, b_low) in
    let some : 1 ≤ length common.value = nonempty common.value c.requires.some in
    let count : length roots ≡ length common.value - 1 = count_of_roots p common.value roots (length common.value - 1) c.leading_inverse-inverse.ensures.normal (omega arith) c.requires.roots in
    let within : length common.value ≤ length f = divisor_is_short p f common.value c.requires.common.of_first.0 g.met.F.Field.prime c.requires.normal c.leading_inverse-inverse.ensures.normal (omega (arith, c.requires.f)) c.requires.common.of_first.1 in
    let product_is : length c.in_ok-product.product ≡ length c.args.roots.now + 1 = c.in_ok-product.ensures.long in
    let rest_short = c.in_ok-rest.ensures.short in
    let multiple_short = c.in_ok-mul.ensures.short in
    let a_short = c.in_ok-a.ensures.short in
    (omega (arith, a_short, rest_short, multiple_short, b_low, product_is, count, within, length-residues value c.args.roots.now, c.requires.h, c.requires.f), b_short)
  where
    nonempty : (a : Coefficients) → a ≢ [] → 1 ≤ length a
    nonempty [] some = absurd (some refl)
    nonempty (x ∷ a) some = omega arith
