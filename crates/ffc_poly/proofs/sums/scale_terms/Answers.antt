use Rattle.std.proofs.Common.{◌≡◌, ◌++◌, sym, ap, ap₂, length, ◌∙◌, subst, slice_range}
use Rattle.ffc_mono.specs.declared.mono.TheConstants.{DEGREE_LIMIT}
use Rattle.ffc_ring.specs.Polynomial.{SamePolynomial, scaled}
use Rattle.ffc_poly.specs.Ordered.{IsOrdered, multiplied}
use Rattle.ffc_poly.proofs.ProductLemmas.{multiplied_is}
use Rattle.ffc_poly.proofs.TermLemmas.{whole_range}
use Rattle.ffc_poly.proofs.sums.scale_terms.Goals as goal

pub returns : goal.returns
returns g c =
    let p = g.F.Field.ORDER in
    let cmp = g.O.MonoOrder.cmp in
    let k = g.F.Field.value c.args.c in
    let terms = c.args.terms.now in
    let whole : slice_range terms 0 c.len.result ≡ terms = whole_range terms c.len.result c.len.ensures in
    let out : c.extend_multiple.new.self ≡ multiplied p k terms =
    c.in_ok-extend_multiple.ensures ∙ ap₂ (λ x y. x ++ multiplied p k y) c.new-out.ensures whole in
    let is = multiplied_is p g.met.F.Field.prime cmp g.met.O.MonoOrder.laws DEGREE_LIMIT k c.requires.c_is (g.met.F.Field.below c.args.c) terms c.requires.terms_are in
    record {
      ordered = subst (IsOrdered p cmp DEGREE_LIMIT) (sym out) is.0;
      same = subst (λ v. SamePolynomial p v (scaled k terms)) (sym out) is.1;
      length = ap length out ∙ is.2;
    }
