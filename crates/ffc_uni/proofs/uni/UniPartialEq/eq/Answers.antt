use Rattle.std.proofs.Common.{◌≡◌, ◌%◌, sym, ap, ap₂, ◌∙◌}
use Rattle.ffc_uni.specs.Univariate.{coefficient_at}
use Rattle.ffc_uni.specs.Equality.{same_coefficients}
use Rattle.ffc_uni.proofs.EqualityLemmas.{pointwise-is_same, same_coefficients-decides}
use Rattle.ffc_uni.proofs.ValueLemmas.{one_normal}
use Rattle.ffc_uni.proofs.uni.UniPartialEq.eq.Goals as goal

pub returns : goal.returns
returns g c =
    let field = g.F.Field in
    let p = field.ORDER in
    let a = c.args.self.now in
    let b = c.args.other.now in
    let value : c.eq.result ≡ same_coefficients a b =
    c.eq.ensures ∙ pointwise-is_same field.value g.F.PartialEq.eq g.met.F.Field.eq_is c.coefs.result.now c.coefs-2.result.now
    ∙ ap₂ same_coefficients c.coefs.ensures.value c.coefs-2.ensures.value in
    let decides = same_coefficients-decides a b in
    record {
      value = value;
      list = (λ h. decides.0 (sym value ∙ h), λ e. value ∙ decides.1 e);
      polynomial = (
        λ h k. ap (λ l. coefficient_at l k % p) (decides.0 (sym value ∙ h)),
        λ same. value ∙ decides.1 (one_normal p a b c.coefs.ensures.normal c.coefs-2.ensures.normal same),
      );
    }
