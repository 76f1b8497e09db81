use Rattle.std.proofs.Common.{◌≡◌, sym, ap, ap₂, ◌∙◌, subst, arith}
use Rattle.ffc_ring.specs.Monomial.{IsMonomial, exponent, degree, mono_lcm}
use Rattle.ffc_ring.proofs.MonomialLemmas.{IsMonomial-mono_lcm, exponent-mono_lcm}
use Rattle.std.specs.Int.RustNames.{bit_or}
use Rattle.ffc_mono.specs.Masks.{mask_of}
use Rattle.ffc_mono.proofs.MaskLemmas.{mask-lcm}
use Rattle.ffc_mono.proofs.mono.Mono.lcm.Goals as goal

pub invariant_of-result : goal.invariant_of-result
invariant_of-result c =
    let a = c.args.self.now in
    let b = c.args.other.now in
    let product : c.in_ok-powers.powers.items ≡ mono_lcm a b = c.in_ok-powers.ensures ∙ ap₂ mono_lcm c.pairs-first.ensures.value c.pairs-second.ensures.value in (
      subst IsMonomial (sym product) (IsMonomial-mono_lcm a b c.pairs-first.ensures.monomial c.pairs-second.ensures.monomial),
      omega (arith, c.lcm_degree-degree.ensures, ap degree c.in_ok-powers.ensures),
      omega (arith, c.if-degree-gt-DEGREE_LIMIT.false),
      ap₂ bit_or (c.self.invariant.3 ∙ ap mask_of c.self.view_is) (c.other.invariant.3 ∙ ap mask_of c.other.view_is)
          ∙ mask-lcm a b c.pairs-first.ensures.monomial c.pairs-second.ensures.monomial ∙ sym (ap mask_of product),
    )

pub returns-clause-exponents : goal.returns-clause-exponents
returns-clause-exponents c x =
    let a = c.args.self.now in
    let b = c.args.other.now in
    ap (λ m. exponent m x) (c.in_ok-powers.ensures ∙ ap₂ mono_lcm c.pairs-first.ensures.value c.pairs-second.ensures.value)
    ∙ exponent-mono_lcm a b c.pairs-first.ensures.monomial c.pairs-second.ensures.monomial x
