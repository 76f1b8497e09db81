use Rattle.std.proofs.Common.{◌≡◌, ◌<◌, ◌++◌, [], ◌∷◌, Contains, length, map, take_all, set, get_or, sym, ap, ◌∙◌, subst, arith, length-append}
use Rattle.std.proofs.lemmas.List.{length-map}
use Rattle.std.proofs.lemmas.List.Elements.{All-get_or}
use Rattle.ffc_echelon.proofs.Buffers.{raised_at}
use Rattle.ffc_ring.specs.Monomial.{Monomial, mono_mul}
use Rattle.ffc_macaulay.proofs.WeightLemmas.{IsAdded, none_added, one_added}
use Rattle.ffc_macaulay.proofs.matrix.add_multiple.Goals as goal

pub place_of-place-requires : goal.place_of-place-requires
place_of-place-requires g c =
    let u : Monomial = c.args.multiplier.now in
    let all = c.args.generator.now in
    let i = c.loop-i.i in
    let columns = c.args.unknowns.now.keys ++ [] ∷ [] in
    let inside : i < length all = omega (arith, c.loop-i-test.true, c.len-i-end.ensures.value) in
    let is : c.in_ok-product.field-0 ≡ mono_mul u (get_or all i (0, [])).1 = c.in_ok-product.ensures ∙ ap (mono_mul u) (c.in_ok-m.ensures.value ∙ c.term-coefficient.ensures.monomial) in
    subst (Contains columns) (sym is) (All-get_or (λ t. Contains columns (mono_mul u t.1)) all i (0, []) inside c.requires.fits.among)

pub loop-i-init : goal.loop-i-init
loop-i-init g c = none_added g.F.Field.ORDER (c.args.unknowns.now.keys ++ [] ∷ []) c.args.multiplier.now (map g.F.Field.value c.args.dense.now)

pub loop-i-preserved : goal.loop-i-preserved
loop-i-preserved g c =
    let value = g.F.Field.value in
    let p = g.F.Field.ORDER in
    let u : Monomial = c.args.multiplier.now in
    let all = c.args.generator.now in
    let i = c.loop-i.i in
    let dense = c.loop-i.dense in
    let place = c.place_of-place.result in
    let m : Monomial = c.in_ok-m.m in
    let unknowns = c.args.unknowns.now.keys in
    let inside : i < length all = omega (arith, c.loop-i-test.true, c.len-i-end.ensures.value) in
    let within : place < length dense = omega (arith, c.place_of-place.ensures.within, c.requires.width, c.loop-i.auto.dense) in
    one_added p (unknowns ++ [] ∷ []) u (map value c.args.dense.now) (map value dense) (map value (set dense place c.add.result)) all i place (value c.term-coefficient.result.0) m
    inside c.term-coefficient.ensures.coefficient (c.in_ok-m.ensures.value ∙ c.term-coefficient.ensures.monomial)
    (c.place_of-place.ensures.place ∙ c.in_ok-product.ensures)
    (omega (arith, c.place_of-place.ensures.within, length-append unknowns ([] ∷ [])))
    (omega (arith, within, length-map dense value))
    (raised_at value p dense place c.index-dense-place.result c.add.result (value c.term-coefficient.result.0) within c.index-dense-place.is c.add.ensures)
    c.loop-i.invariant

pub returns : goal.returns
returns g c =
    let value = g.F.Field.value in
    subst (λ ts. IsAdded g.F.Field.ORDER (c.args.unknowns.now.keys ++ [] ∷ []) c.args.multiplier.now (map value c.args.dense.now) ts (map value c.loop-i.dense))
    (take_all c.loop-i.i c.args.generator.now (omega (arith, c.loop-i-test.false, c.len-i-end.ensures.value))) c.loop-i.invariant
