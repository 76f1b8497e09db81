use Rattle.std.proofs.Common.{sym, subst, ◌∷◌, []}
use Rattle.ffc_ckpoly.specs.Flat.{cut, HaveMonomials}
use Rattle.ffc_ckpoly.proofs.SortedLemmas.{append_monomials}
use Rattle.ffc_ckpoly.proofs.products.CkSum.with_term.Goals as goal

pub invariant_of-result : goal.invariant_of-result
invariant_of-result g c =
    let value = g.F.Field.value in
    let m = c.args.m.now in
    let old = cut value 0 c.self.inside.buffer.marks.items c.self.inside.buffer.powers.items in
    (c.in_ok-push.ensures.parts, subst HaveMonomials (sym c.in_ok-push.ensures.terms) (append_monomials old ((value c.args.c, m) ∷ []) c.self.invariant.1 (c.requires.m_is, c.requires.fits, tt)))
