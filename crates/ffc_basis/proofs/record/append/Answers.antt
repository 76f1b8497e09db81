use Rattle.std.proofs.Common.{ℕ, [], ◌∷◌, ◌++◌, sym, ap, ◌∙◌, subst}
use Rattle.ffc_ring.specs.Polynomial.{Terms}
use Rattle.ffc_line.specs.Lines.{Parts}
use Rattle.ffc_basis.specs.Records.{AreShort}
use Rattle.ffc_basis.proofs.RecordLemmas.{short_push}
use Rattle.ffc_basis.proofs.record.append.Goals as goal

pub returns-clause-short : goal.returns-clause-short
returns-clause-short g c = λ v.
    let items : Parts = c.args.multiples.now.items in
    subst AreShort (sym (c.in_ok-push.ensures.items ∙ ap (λ (x : ℕ × Terms). items ++ x ∷ []) c.in_ok-single.ensures))
    (short_push items c.args.line (g.F.Field.value c.args.c, c.args.m.now) v c.degree-degree.ensures.monomial)
