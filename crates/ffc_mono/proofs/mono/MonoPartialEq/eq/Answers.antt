use Rattle.std.proofs.Common.{◌≡◌, sym, ap₂, ◌∙◌}
use Rattle.ffc_ring.specs.Monomial.{same_monomial}
use Rattle.ffc_ring.proofs.PolynomialLemmas.{same_monomial-true, same_monomial-equal}
use Rattle.ffc_mono.proofs.PowerLemmas.{pointwise-is_same}
use Rattle.ffc_mono.proofs.mono.MonoPartialEq.eq.Goals as goal

pub returns : goal.returns
returns c =
    let a = c.args.self.now in
    let b = c.args.other.now in
    let value : c.eq.result ≡ same_monomial a b =
    c.eq.ensures ∙ pointwise-is_same c.pairs.result.now c.pairs-2.result.now ∙ ap₂ same_monomial c.pairs.ensures.value c.pairs-2.ensures.value in
    record {
      value = value;
      list = (λ h. same_monomial-true a b (sym value ∙ h), λ e. value ∙ same_monomial-equal a b e);
    }
