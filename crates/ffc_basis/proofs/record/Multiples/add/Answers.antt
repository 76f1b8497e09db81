use Rattle.std.proofs.Common.{ℕ, sym, ap, subst}
use Rattle.ffc_ring.specs.Polynomial.{Terms, AreTerms}
use Rattle.ffc_basis.proofs.RecordLemmas.{terms_push}
use Rattle.ffc_basis.proofs.record.Multiples.add.Goals as goal

pub returns-clause-terms : goal.returns-clause-terms
returns-clause-terms g c = λ v.
    subst AreTerms (sym (ap (λ (t : ℕ × Terms). t.1) c.in_ok-push.ensures.pushed))
    (terms_push c.args.self.now.1 (g.F.Field.value c.args.c, c.args.m.now) v c.degree-degree.ensures.monomial)
