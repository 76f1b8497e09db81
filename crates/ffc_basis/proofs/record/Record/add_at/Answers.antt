use Rattle.std.proofs.Common.{◌≡◌, ℕ, ◌<◌, [], ◌∷◌, ◌++◌, length, get_or, Option, IfSome, IfNone, refl, sym, ap, ◌∙◌, subst}
use Rattle.ffc_ring.specs.Polynomial.{Terms}
use Rattle.ffc_line.specs.Lines.{Parts, IsLineOfNone}
use Rattle.ffc_basis.specs.Records.{AreOfDifferentLines}
use Rattle.ffc_basis.specs.Reduction.{IsAddedAt, IsRecorded}
use Rattle.ffc_basis.proofs.Lists.{on_ok}
use Rattle.ffc_basis.proofs.PartLemmas.{recorded_push, recorded_add, lines_push, lines_set}
use Rattle.ffc_basis.proofs.record.Record.add_at.Goals as goal

pub returns-in-Some-clause-recorded : goal.returns-in-Some-clause-recorded
returns-in-Some-clause-recorded g c =
    let p = g.F.Field.ORDER in
    let k = g.F.Field.value c.args.c in
    let m = c.args.m.now in
    let old : Parts = c.args.self.now in
    let new : Parts = c.add_at.new.multiples.items in
    let place = c.in-Some.place in
    let found : (place < length old) × ((get_or old place (0, [])).0 ≡ c.args.line) =
    subst (λ (o : Option ℕ). IfSome o (λ i. (i < length old) × ((get_or old i (0, [])).0 ≡ c.args.line))) c.in-Some.is c.requires.some in
    on_ok c.add_at.result
    (λ added. recorded_add p c.args.line k m ((k, m) ∷ []) old new place (λ _. refl) found.0 found.1 (subst (λ (ts : Parts). IsAddedAt p ts new place ((k, m) ∷ [])) c.self.view_is added))
    c.add_at.ensures.added

pub returns-in-Some-clause-lines : goal.returns-in-Some-clause-lines
returns-in-Some-clause-lines g c =
    let p = g.F.Field.ORDER in
    let old : Parts = c.args.self.now in
    let new : Parts = c.add_at.new.multiples.items in
    let place = c.in-Some.place in
    let term : Terms = (g.F.Field.value c.args.c, c.args.m.now) ∷ [] in
    on_ok c.add_at.result
    (λ added v.
    let there : IsAddedAt p old new place term = subst (λ (ts : Parts). IsAddedAt p ts new place term) c.self.view_is added in
    subst AreOfDifferentLines (sym there.1) (lines_set there.0 old place v))
    c.add_at.ensures.added

pub returns-in_ok-append-in-None-clause-recorded : goal.returns-in_ok-append-in-None-clause-recorded
returns-in_ok-append-in-None-clause-recorded g c =
    let p = g.F.Field.ORDER in
    let k = g.F.Field.value c.args.c in
    let m = c.args.m.now in
    let old : Parts = c.args.self.now in
    let part : ℕ × Terms = (c.args.line, (k, m) ∷ []) in
    subst (λ (ts : Parts). IsRecorded p old ts c.args.line k m) (sym (c.in_ok-append-in-None.ensures.appended ∙ ap (λ (ts : Parts). ts ++ part ∷ []) c.self.view_is))
    (recorded_push p c.args.line k m ((k, m) ∷ []) old (λ _. refl))

pub returns-in_ok-append-in-None-clause-lines : goal.returns-in_ok-append-in-None-clause-lines
returns-in_ok-append-in-None-clause-lines g c = λ v.
    let old : Parts = c.args.self.now in
    let term : Terms = (g.F.Field.value c.args.c, c.args.m.now) ∷ [] in
    let part : ℕ × Terms = (c.args.line, term) in
    let none : IsLineOfNone c.args.line old = subst (λ (o : Option ℕ). IfNone o (IsLineOfNone c.args.line old)) c.in-None.is c.requires.none in
    subst AreOfDifferentLines (sym (c.in_ok-append-in-None.ensures.appended ∙ ap (λ (ts : Parts). ts ++ part ∷ []) c.self.view_is)) (lines_push c.args.line term old none v)
