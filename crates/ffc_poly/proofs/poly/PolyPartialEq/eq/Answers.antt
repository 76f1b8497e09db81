use Rattle.std.proofs.Common.{◌≡◌, IsTrue, refl, sym, ◌∙◌, subst}
use Rattle.std.proofs.lemmas.Bool.Decides.{same_from_decides}
use Rattle.ffc_ring.specs.Polynomial.{SamePolynomial}
use Rattle.ffc_mono.specs.declared.mono.TheConstants.{DEGREE_LIMIT}
use Rattle.ffc_poly.specs.Equality.{same_terms}
use Rattle.ffc_poly.proofs.EqualityLemmas.{same_terms-decides, one_list}
use Rattle.ffc_poly.proofs.poly.PolyPartialEq.eq.Goals as goal

pub returns : goal.returns
returns g c =
    let p = g.F.Field.ORDER in
    let a = c.args.self.now in
    let b = c.args.other.now in
    let left : c.listed.result.now ≡ a = c.listed.ensures.value in
    let right : c.listed-2.result.now ≡ b = c.listed-2.ensures.value in
    let decides = same_terms-decides a b in
    let to : IsTrue c.are_equal.result → a ≡ b = λ h. sym left ∙ c.are_equal.ensures.0 h ∙ right in
    let back : a ≡ b → IsTrue c.are_equal.result = λ e. c.are_equal.ensures.1 (left ∙ e ∙ sym right) in
    record {
      value = same_from_decides c.are_equal.result (same_terms a b) (to, back) decides;
      list = (to, back);
      polynomial = (
        λ h. subst (SamePolynomial p a) (to h) (λ m. refl),
        λ same. back (one_list p g.O.MonoOrder.cmp g.met.O.MonoOrder.laws DEGREE_LIMIT a b c.listed.ensures.ordered c.listed-2.ensures.ordered same),
      );
    }
