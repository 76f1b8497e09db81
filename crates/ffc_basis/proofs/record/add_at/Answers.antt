use Rattle.std.proofs.Common.{◌≡◌, ℕ, ◌<◌, ◌≤◌, [], ◌∷◌, ◌++◌, length, get_or, set, sym, ap, ◌∙◌, subst, arith}
use Rattle.ffc_ring.specs.Polynomial.{Terms, SamePolynomial, AreTerms}
use Rattle.ffc_line.specs.Lines.{Parts}
use Rattle.ffc_basis.proofs.Lists.{any_default, on_ok}
use Rattle.ffc_basis.proofs.RecordLemmas.{short_at, short_set}
use Rattle.ffc_basis.proofs.record.add_at.Goals as goal

pub add-requires : goal.add-requires
add-requires g c =
    let items : Parts = c.args.multiples.now.items in
    let place = c.args.place in
    let within : place < length items = omega (arith, c.requires.place, c.args.multiples.now.ok.0) in
    let part : ℕ × Terms = c.index_mut-part.result.now in
    let is : part ≡ get_or items place (0, []) = c.index_mut-part.ensures.value ∙ any_default items place part (0, []) within in
    subst (λ (t : ℕ × Terms). length t.1 ≤ 131072) (sym is) (short_at items place c.requires.short within).1

pub returns-clause-added : goal.returns-clause-added
returns-clause-added g c =
    let p = g.F.Field.ORDER in
    let items : Parts = c.args.multiples.now.items in
    let place = c.args.place in
    let within : place < length items = omega (arith, c.requires.place, c.args.multiples.now.ok.0) in
    let part : ℕ × Terms = c.index_mut-part.result.now in
    let new : ℕ × Terms = c.add.new.self in
    let term : Terms = (g.F.Field.value c.args.c, c.args.m.now) ∷ [] in
    let is : part ≡ get_or items place (0, []) = c.index_mut-part.ensures.value ∙ any_default items place part (0, []) within in
    on_ok c.add.result
    (λ sum. (
      new.1,
      ap (λ (n : ℕ). set items place (n, new.1)) (c.add.ensures.line ∙ ap (λ (t : ℕ × Terms). t.0) is),
      subst (λ (t : ℕ × Terms). SamePolynomial p new.1 (t.1 ++ term)) is sum,
    ))
    c.add.ensures.sum

pub returns-clause-short : goal.returns-clause-short
returns-clause-short g c =
    let items : Parts = c.args.multiples.now.items in
    let place = c.args.place in
    let within : place < length items = omega (arith, c.requires.place, c.args.multiples.now.ok.0) in
    let part : ℕ × Terms = c.index_mut-part.result.now in
    let new : ℕ × Terms = c.add.new.self in
    let is : part ≡ get_or items place (0, []) = c.index_mut-part.ensures.value ∙ any_default items place part (0, []) within in
    short_set items place new.0 new.1 c.requires.short (c.add.ensures.terms (subst (λ (t : ℕ × Terms). AreTerms t.1) (sym is) (short_at items place c.requires.short within).0)) c.add.ensures.short
