use Rattle.std.proofs.Common.{◌≡◌, ◌<◌, ◌+◌, ◌*◌, ◌%◌, ℕ, [], ◌∷◌, ◌++◌, List, All, Contains, length, take, set, map, get_or, sym, ap, ◌∙◌, subst, arith}
use Rattle.std.proofs.lemmas.List.{take_more, map-set, get_or-map, length-map}
use Rattle.std.proofs.lemmas.List.Elements.{All-get_or}
use Rattle.ffc_field.specs.Modular.{add_mod, mul_mod}
use Rattle.ffc_ring.specs.Monomial.{Monomial}
use Rattle.ffc_ring.specs.Polynomial.{Terms, SamePolynomial, scaled}
use Rattle.ffc_poly.specs.Ordered.{values_of}
use Rattle.ffc_dense.specs.Columns.{AreApart, listed, terms_of}
use Rattle.ffc_dense.proofs.DenseLemmas.{one_more, raised_listed}
use Rattle.ffc_dense.proofs.dense.add_multiple.Goals as goal

pub loop-term-preserved : goal.loop-term-preserved
loop-term-preserved g c =
    let value = g.F.Field.value in
    let p = g.F.Field.ORDER in
    let i = c.loop-term.term-index in
    let terms = c.args.terms.now in
    let t = c.term-item.result in
    let items = c.loop-term.coefficients.items in
    let new = c.add_scaled.result in
    let inside : t.0 < length items = omega (arith, All-get_or (λ u. u.0 < c.args.coefficients.now.len) terms i t c.loop-term-test.true c.requires, ap (λ (u : ℕ × g.row.F.Denot). u.0) c.term-item.is, c.loop-term.invariant.0, c.loop-term.coefficients.ok) in (
      c.loop-term.invariant.0,
      λ ms ns a has.
          let x : ℕ = (value c.args.c * value t.1) % p in
          let old : get_or (values_of value items) t.0 0 ≡ value c.index.result.now = get_or-map value items t.0 c.index.result.now 0 inside ∙ ap value (sym c.index.ensures) in
          let raised : value new ≡ (get_or (values_of value items) t.0 0 + x) % p = c.add_scaled.ensures ∙ ap (λ k. (k + x) % p) (sym old) in
          let there : Contains ns t.0 = subst (λ (u : ℕ × g.row.F.Denot). Contains ns u.0) (sym c.term-item.is) (All-get_or (λ u. Contains ns u.0) terms i t c.loop-term-test.true has) in
          let now = raised_listed p (values_of value items) ms t.0 (value new) x (omega (arith, inside, length-map items value)) raised ns a there in
          subst (λ ts. SamePolynomial p (listed (values_of value (set items t.0 new)) ms ns) (listed (values_of value c.args.coefficients.now.items) ms ns ++ scaled (value c.args.c) (terms_of value ms ts)))
          (sym (take_more terms i t c.loop-term-test.true ∙ ap (λ u. take i terms ++ u ∷ []) (sym c.term-item.is)))
          (one_more value p (value c.args.c) ms (listed (values_of value c.args.coefficients.now.items) ms ns) (listed (values_of value items) ms ns) (listed (values_of value (set items t.0 new)) ms ns) (take i terms) t
          (c.loop-term.invariant.1 ms ns a has)
          (subst (λ ks. SamePolynomial p (listed ks ms ns) (listed (values_of value items) ms ns ++ (x, get_or ms t.0 []) ∷ [])) (sym (map-set value items t.0 new)) now)),
    )
