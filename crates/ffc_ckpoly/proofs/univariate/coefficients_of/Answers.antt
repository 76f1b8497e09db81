use Rattle.std.proofs.Common.{◌≡◌, ◌-◌, ◌∷◌, [], true, length, drop, sym, ap, ap₂, ◌∙◌, subst, arith}
use Rattle.std.proofs.lemmas.List.{length-map}
use Rattle.ffc_trees.specs.TreeLines.{is_in, coefficients_of}
use Rattle.ffc_uni.specs.Univariate.{plus}
use Rattle.ffc_uni.specs.Rows.{shifted}
use Rattle.ffc_ckpoly.specs.Sorted.{residues, IsSorted, word_order}
use Rattle.ffc_ckpoly.proofs.Lists.{left_before, sorted_drop}
use Rattle.ffc_ckpoly.proofs.UnivariateLemmas.{alone_drop, residues-drop, rest_below}
use Rattle.ffc_ckpoly.proofs.univariate.coefficients_of.Goals as goal

pub degree-requires : goal.degree-requires
degree-requires g c =
    let value = g.F.Field.value in
    let p = g.F.Field.ORDER in
    let terms = c.args.terms.now in
    let place = c.loop-place.place in
    let t = c.index-terms-place.result in
    let left = left_before terms place t c.loop-place-test.true c.loop-place.auto.place c.index-terms-place.is in
    let sorted : IsSorted p (residues value (t ∷ drop place terms)) =
    subst (λ ts. IsSorted p (residues value ts)) left (sorted_drop value p word_order (place - 1) terms c.requires.sorted) in
    sorted.3

pub put_at-requires : goal.put_at-requires
put_at-requires g c =
    let value = g.F.Field.value in
    let p = g.F.Field.ORDER in
    let terms = c.args.terms.now in
    let place = c.loop-place.place in
    let t = c.index-terms-place.result in
    let left = left_before terms place t c.loop-place-test.true c.loop-place.auto.place c.index-terms-place.is in
    let sorted : IsSorted p (residues value (t ∷ drop place terms)) =
    subst (λ ts. IsSorted p (residues value ts)) left (sorted_drop value p word_order (place - 1) terms c.requires.sorted) in
    let alone : is_in c.args.x (residues value (t ∷ drop place terms)) ≡ true =
    ap (λ ts. is_in c.args.x (residues value ts)) (sym left) ∙ ap (is_in c.args.x) (residues-drop value (place - 1) terms) ∙ alone_drop c.args.x (place - 1) (residues value terms) c.requires.alone in
    omega (arith, rest_below p c.args.x (value t.0, t.1.now) (residues value (drop place terms)) sorted alone, ap length c.loop-place.invariant, length-map c.loop-place.coefs.items value, c.degree.ensures)

pub loop-place-preserved : goal.loop-place-preserved
loop-place-preserved g c =
    let value = g.F.Field.value in
    let terms = c.args.terms.now in
    let place = c.loop-place.place in
    let t = c.index-terms-place.result in
    let left = left_before terms place t c.loop-place-test.true c.loop-place.auto.place c.index-terms-place.is in
    c.in_ok-put_at.ensures
    ∙ ap₂ (λ n a. plus (shifted n (value t.0 ∷ [])) a) c.degree.ensures c.loop-place.invariant
    ∙ ap (λ ts. coefficients_of (residues value ts)) (sym left)
