use Rattle.std.proofs.Common.{◌≡◌, ◌∷◌, [], get_or, drop, sym, ap, ◌∙◌, subst, arith, eqb-true, eq-eqb}
use Rattle.ffc_ring.specs.Monomial.{degree}
use Rattle.ffc_ring.specs.Polynomial.{Terms}
use Rattle.ffc_mono.specs.declared.mono.TheConstants.{DEGREE_LIMIT}
use Rattle.ffc_poly.specs.Ordered.{IsOrdered, IsConstant}
use Rattle.ffc_poly.proofs.Coefficients.{IsConstant-from_first, first_of_constant}
use Rattle.ffc_poly.proofs.TermLemmas.{first_and_rest}
use Rattle.ffc_poly.proofs.poly.Poly.is_constant.Goals as goal

pub returns-else-len-eq0 : goal.returns-else-len-eq0
returns-else-len-eq0 g c =
    let p = g.F.Field.ORDER in
    let cmp = g.O.MonoOrder.cmp in
    let laws = g.met.O.MonoOrder.laws in
    let now : Terms = c.args.self.now in
    let t = get_or now 0 (0, []) in
    let e : t ∷ drop 1 now ≡ now = first_and_rest now (omega (arith, c.if-len-eq0.false, c.len.ensures.value)) in
    let ordered = subst (IsOrdered p cmp DEGREE_LIMIT) (sym e) c.len.ensures.ordered in
    let its : c.degree.result ≡ degree t.1 = c.degree.ensures.value ∙ ap degree c.term.ensures.monomial in (
      λ h. subst (IsConstant p) e (IsConstant-from_first p cmp laws DEGREE_LIMIT t (drop 1 now) ordered (sym its ∙ eqb-true _ 0 h)),
      λ k. eq-eqb _ 0 (its ∙ first_of_constant p cmp laws DEGREE_LIMIT t (drop 1 now) ordered (subst (IsConstant p) (sym e) k)),
    )
