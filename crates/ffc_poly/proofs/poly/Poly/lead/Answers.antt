use Rattle.std.proofs.Common.{◌≡◌, ℕ, ◌∷◌, [], get_or, drop, sym, ap, ap₂, ◌∙◌, subst, arith}
use Rattle.ffc_ring.specs.Monomial.{Monomial}
use Rattle.ffc_ring.specs.Polynomial.{Terms}
use Rattle.ffc_mono.specs.declared.mono.TheConstants.{DEGREE_LIMIT}
use Rattle.ffc_mono.specs.Leading.{IsLeading}
use Rattle.ffc_poly.specs.Ordered.{IsOrdered}
use Rattle.ffc_poly.proofs.Coefficients.{IsLeading-first}
use Rattle.ffc_poly.proofs.TermLemmas.{first_and_rest}
use Rattle.ffc_poly.proofs.poly.Poly.lead.Goals as goal

pub returns-else-len-eq0-clause-leading : goal.returns-else-len-eq0-clause-leading
returns-else-len-eq0-clause-leading g c =
    let value = g.F.Field.value in
    let p = g.F.Field.ORDER in
    let cmp = g.O.MonoOrder.cmp in
    let now : Terms = c.args.self.now in
    let t : ℕ × Monomial = (value c.term.result.0, c.term.result.1.powers.now) in
    let first : t ≡ get_or now 0 (0, []) = ap₂ (λ x y. (x, y)) c.term.ensures.coefficient c.term.ensures.monomial in
    let e : t ∷ drop 1 now ≡ now = ap (λ k. k ∷ drop 1 now) first ∙ first_and_rest now (omega (arith, c.if-len-eq0.false, c.len.ensures.value)) in
    subst (λ ts. IsLeading p cmp ts t.0 t.1) e (IsLeading-first p cmp g.met.O.MonoOrder.laws DEGREE_LIMIT t (drop 1 now) (subst (IsOrdered p cmp DEGREE_LIMIT) (sym e) c.len.ensures.ordered))
