use Rattle.std.proofs.Common.{ℕ, [], ◌∷◌, ◌++◌, refl, sym, ap, ◌∙◌, subst}
use Rattle.ffc_ring.specs.Polynomial.{Terms}
use Rattle.ffc_line.specs.Lines.{Parts}
use Rattle.ffc_basis.specs.Reduction.{IsRecorded}
use Rattle.ffc_basis.proofs.PartLemmas.{recorded_push}
use Rattle.ffc_basis.proofs.record.Record.append.Goals as goal

pub returns-clause-recorded : goal.returns-clause-recorded
returns-clause-recorded g c =
    let p = g.F.Field.ORDER in
    let k = g.F.Field.value c.args.c in
    let m = c.args.m.now in
    let old : Parts = c.args.self.now in
    let part : ℕ × Terms = (c.args.line, (k, m) ∷ []) in
    subst (λ (ts : Parts). IsRecorded p old ts c.args.line k m) (sym (c.in_ok-append.ensures.appended ∙ ap (λ (ts : Parts). ts ++ part ∷ []) c.self.view_is))
    (recorded_push p c.args.line k m ((k, m) ∷ []) old (λ _. refl))
