use Rattle.std.proofs.Common.{ℕ, length, ap, subst, arith, Err}
use Rattle.ffc_ring.specs.Polynomial.{Terms, SamePolynomial}
use Rattle.ffc_poly.specs.Ordered.{residues}
use Rattle.ffc_basis.proofs.Lists.{only_memory}
use Rattle.ffc_basis.proofs.RecordLemmas.{length-residues}
use Rattle.ffc_basis.proofs.record.Multiples.polynomial.Goals as goal

pub only_memory-requires : goal.only_memory-requires
only_memory-requires g c =
    let items = c.self.inside.terms.items in
    only_memory c.in-Err.stop (λ e. c.in-Err.ensures.no_product (ap (λ stop. Err stop) e))
    (λ e. c.in-Err.ensures.short
    (omega (arith, c.requires, ap length c.as_slice.ensures.value, length-residues g.F.Field.value items, ap (λ (t : ℕ × Terms). length t.1) c.self.view_is))
    (ap (λ stop. Err stop) e))

pub returns-in-Ok : goal.returns-in-Ok
returns-in-Ok g c =
    let p = g.F.Field.ORDER in
    let value = g.F.Field.value in
    let whole : Terms = c.in-Ok.whole in
    subst (λ (t : ℕ × Terms). SamePolynomial p whole t.1) c.self.view_is (subst (λ xs. SamePolynomial p whole (residues value xs)) c.as_slice.ensures.value c.in-Ok.ensures.sum)
