use Rattle.std.proofs.Common.{◌≡◌, sym, ap, ap₂, ◌∙◌, subst, arith}
use Rattle.ffc_ring.specs.Monomial.{IsMonomial, exponent, degree, mono_mul}
use Rattle.ffc_ring.proofs.MonomialLemmas.{IsMonomial-mono_mul, exponent-mono_mul, degree-mono_mul}
use Rattle.std.specs.Int.RustNames.{bit_or}
use Rattle.ffc_mono.specs.Masks.{mask_of}
use Rattle.ffc_mono.proofs.MaskLemmas.{mask-product}
use Rattle.ffc_mono.proofs.mono.Mono.mul.Goals as goal

pub invariant_of-result : goal.invariant_of-result
invariant_of-result c =
    let a = c.args.self.now in
    let b = c.args.other.now in
    let product : c.in_ok-powers.powers.items ≡ mono_mul a b = c.in_ok-powers.ensures ∙ ap₂ mono_mul c.pairs.ensures.value c.pairs-2.ensures.value in (
      subst IsMonomial (sym product) (IsMonomial-mono_mul a b c.pairs.ensures.monomial c.pairs-2.ensures.monomial),
      omega (arith, ap degree product, degree-mono_mul a b, c.self.invariant.1, c.other.invariant.1, ap degree c.self.view_is, ap degree c.other.view_is),
      omega (arith, c.if-total_degree-gt-DEGREE_LIMIT.false),
      ap₂ bit_or (c.self.invariant.3 ∙ ap mask_of c.self.view_is) (c.other.invariant.3 ∙ ap mask_of c.other.view_is)
          ∙ mask-product a b c.pairs.ensures.monomial c.pairs-2.ensures.monomial ∙ sym (ap mask_of product),
    )

pub returns-clause-exponents : goal.returns-clause-exponents
returns-clause-exponents c x =
    let a = c.args.self.now in
    let b = c.args.other.now in
    ap (λ m. exponent m x) (c.in_ok-powers.ensures ∙ ap₂ mono_mul c.pairs.ensures.value c.pairs-2.ensures.value)
    ∙ exponent-mono_mul a b c.pairs.ensures.monomial c.pairs-2.ensures.monomial x
