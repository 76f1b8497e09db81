use Rattle.std.proofs.Common.{◌≡◌, ℕ, [], ◌∷◌, ◌++◌, take, get_or, sym, ap, ◌∙◌, subst}
use Rattle.std.proofs.lemmas.List.{take_more, get_or_default}
use Rattle.ffc_ring.specs.Monomial.{Monomial}
use Rattle.ffc_macaulay.specs.Matrix.{IsMultiplier, IsRow, IsUsable}
use Rattle.ffc_macaulay.proofs.MatrixLemmas.{rows_push}
use Rattle.ffc_macaulay.proofs.matrix.rows.Goals as goal

pub row-requires-clause-fits : goal.row-requires-clause-fits
row-requires-clause-fits g c =
    let columns = c.args.unknowns.now.keys ++ [] ∷ [] in
    let generators = c.args.generators.now in
    let x : ℕ × Monomial = c.multiple-item.result in
    let usable : IsUsable columns generators x = subst (IsUsable columns generators) (sym c.multiple-item.is) (c.requires.fits c.loop-multiple.multiple-index x c.loop-multiple-test.true) in
    let is : c.index-generators-multiple.result ≡ get_or generators x.0 [] = c.index-generators-multiple.is ∙ get_or_default generators x.0 c.index-generators-multiple.result [] usable.there in
    subst (λ ts. IsMultiplier columns ts x.1) (sym is) usable.multiplier

pub loop-multiple-preserved : goal.loop-multiple-preserved
loop-multiple-preserved g c =
    let p = g.F.Field.ORDER in
    let columns = c.args.unknowns.now.keys ++ [] ∷ [] in
    let generators = c.args.generators.now in
    let ms = c.args.multiples.now in
    let i = c.loop-multiple.multiple-index in
    let x : ℕ × Monomial = c.multiple-item.result in
    let row = c.in_ok-row.field-0 in
    let usable : IsUsable columns generators x = subst (IsUsable columns generators) (sym c.multiple-item.is) (c.requires.fits i x c.loop-multiple-test.true) in
    let is : c.index-generators-multiple.result ≡ get_or generators x.0 [] = c.index-generators-multiple.is ∙ get_or_default generators x.0 c.index-generators-multiple.result [] usable.there in
    rw (take_more ms i x c.loop-multiple-test.true ∙ ap (λ (z : ℕ × Monomial). take i ms ++ z ∷ []) (sym c.multiple-item.is), c.in_ok-push.ensures.items)
    (rows_push p columns generators (take i ms) c.loop-multiple.rows.items x row c.loop-multiple.invariant (subst (λ ts. IsRow p columns ts x.1 row) is c.in_ok-row.ensures))
