use Rattle.std.proofs.Common.{ℕ, [], ◌∷◌, ◌++◌, ap, ◌∙◌}
use Rattle.ffc_ring.specs.Monomial.{Monomial}
use Rattle.ffc_ring.specs.Polynomial.{Terms}
use Rattle.ffc_poly.specs.Ordered.{residues}
use Rattle.ffc_basis.proofs.SplitLemmas.{front_pushed}
use Rattle.ffc_basis.proofs.record.Multiples.push.Goals as goal

pub returns-clause-pushed : goal.returns-clause-pushed
returns-clause-pushed g c =
    let value = g.F.Field.value in
    let line = c.self.inside.line in
    let items = c.self.inside.terms.items in
    ap (λ (ts : Terms). (line, ts)) (front_pushed value items c.push.new.self.items (c.args.c, c.in_ok-clone.field-0) c.in_ok-push.ensures.items)
    ∙ ap (λ (m : Monomial). (line, residues value items ++ (value c.args.c, m) ∷ [])) c.in_ok-clone.ensures.cases
    ∙ ap (λ (t : ℕ × Terms). (t.0, t.1 ++ (value c.args.c, c.args.m.now) ∷ [])) c.self.view_is
