use Rattle.std.proofs.Common.{◌≡◌, ◌+◌, ◌-◌, ap, ◌∙◌, arith}
use Rattle.ffc_ring.specs.Monomial.{Monomial, degree, mono_mul}
use Rattle.ffc_macaulay.proofs.CountLemmas.{more_powers, all_powers}
use Rattle.ffc_macaulay.proofs.monomials.append_with_powers.Goals as goal

pub loop-exponent-preserved : goal.loop-exponent-preserved
loop-exponent-preserved c =
    let m : Monomial = c.args.m.now in
    more_powers c.args.variable m c.in_ok-product.field-0 c.args.found.now.items c.loop-exponent.found.items c.push.new.self.items c.loop-exponent.exponent
    c.loop-exponent.invariant (c.in_ok-product.ensures ∙ ap (λ k. mono_mul k m) c.in_ok-power.ensures) c.in_ok-push.ensures.items

pub returns : goal.returns
returns c =
    let m : Monomial = c.args.m.now in
    let last : c.loop-exponent.exponent ≡ c.args.highest - degree m + 1 = omega (arith, c.loop-exponent-test.false, c.loop-exponent.auto.exponent-end, c.degree.ensures.value) in
    all_powers c.args.highest c.args.variable m c.args.found.now.items c.loop-exponent.found.items c.loop-exponent.exponent last c.loop-exponent.invariant
