use Rattle.std.proofs.Common.{◌≡◌, sym, ap, ap₂, ◌∙◌, subst, arith}
use Rattle.ffc_ring.specs.Monomial.{IsMonomial, degree, exponent, mono_mul, mono_quotient}
use Rattle.ffc_ring.proofs.MonomialLemmas.{IsMonomialFrom-mono_quotient, exponent-mono_quotient, mono_mul-mono_quotient, degree-mono_mul, degree_of_divisor}
use Rattle.ffc_mono.specs.Masks.{mask_of}
use Rattle.ffc_mono.proofs.mono.Mono.quotient.Goals as goal

pub overflow_sub-total_degree : goal.overflow_sub-total_degree
overflow_sub-total_degree c =
    omega (
      arith,
      degree_of_divisor 0 c.args.by.now c.args.self.now c.pairs-2.ensures.monomial c.pairs.ensures.monomial c.requires,
      c.self.invariant.1,
      c.by.invariant.1,
      ap degree c.self.view_is,
      ap degree c.by.view_is,
    )

pub invariant_of-result : goal.invariant_of-result
invariant_of-result c =
    let a = c.args.self.now in
    let b = c.args.by.now in
    let v : IsMonomial a = c.pairs.ensures.monomial in
    let w : IsMonomial b = c.pairs-2.ensures.monomial in
    let quotient : c.in_ok-powers.powers.items ≡ mono_quotient a b = c.in_ok-powers.ensures ∙ ap₂ mono_quotient c.pairs.ensures.value c.pairs-2.ensures.value in (
      subst IsMonomial (sym quotient) (IsMonomialFrom-mono_quotient 0 a b v),
      omega (arith, ap degree quotient, degree-mono_mul b (mono_quotient a b), ap degree (mono_mul-mono_quotient a b v w c.requires), c.self.invariant.1, c.by.invariant.1, ap degree c.self.view_is, ap degree c.by.view_is),
      omega (arith, c.self.invariant.2),
      c.mask_of-mask.ensures ∙ ap mask_of c.as_slice.ensures,
    )

pub returns : goal.returns
returns c =
    let a = c.args.self.now in
    let b = c.args.by.now in
    let v : IsMonomial a = c.pairs.ensures.monomial in
    let w : IsMonomial b = c.pairs-2.ensures.monomial in
    let quotient : c.in_ok-powers.powers.items ≡ mono_quotient a b = c.in_ok-powers.ensures ∙ ap₂ mono_quotient c.pairs.ensures.value c.pairs-2.ensures.value in
    record {
      value = ap (mono_mul b) quotient ∙ mono_mul-mono_quotient a b v w c.requires;
      exponents = λ x. ap (λ m. exponent m x) quotient ∙ exponent-mono_quotient 0 a b x v;
      degree = omega (arith, ap degree quotient, degree-mono_mul b (mono_quotient a b), ap degree (mono_mul-mono_quotient a b v w c.requires));
    }
