use Rattle.std.proofs.Common.{◌≡◌, ◌<◌, ◌++◌, All, Contains, length, drop, sym, ap, ◌∙◌, subst, arith}
use Rattle.ffc_ring.specs.Polynomial.{Terms, coefficient, scaled, difference}
use Rattle.ffc_poly.specs.Ordered.{values_of, IsOrdered}
use Rattle.ffc_dense.specs.Columns.{AreNumbers, listed, terms_of}
use Rattle.ffc_dense.proofs.ColumnLemmas.{apart}
use Rattle.ffc_dense.proofs.DenseLemmas.{subtracted, first_then_after, AreApart-drop}
use Rattle.ffc_dense.proofs.dense.Dense.subtract.Goals as goal

pub returns-clause-difference : goal.returns-clause-difference
returns-clause-difference g c done m =
    let value = g.F.Field.value in
    let p = g.F.Field.ORDER in
    let cmp = g.O.MonoOrder.cmp in
    let i = c.self.inside in
    let ks = values_of value i.coefficients.items in
    let ms = i.columns.0 in
    let ns = i.columns.1 in
    let terms = c.args.terms.now in
    let back = ap (λ v. v.0) (sym c.self.view_is) in
    let known : AreNumbers (length ms) terms = subst (λ xs. AreNumbers (length xs) terms) back c.requires.numbers in
    let ordered : IsOrdered p cmp 1024 (terms_of value ms terms) = subst (λ xs. IsOrdered p cmp 1024 (terms_of value xs terms)) back c.requires.ordered in
    let inside : i.from < length ns = omega (arith, c.if-self-places.false, c.places.ensures) in
    let has = first_then_after value p cmp g.met.O.MonoOrder.laws ms ns i.from c.in-Some.lead.now terms c.len-count.ensures.columns inside known ordered c.in-Some.ensures.value (omega (arith, c.if-lead-at.false, c.at.ensures.value)) in
    c.add_multiple.ensures.sum ms (drop i.from ns) (AreApart-drop i.from ns (apart cmp g.met.O.MonoOrder.laws ms ns c.len-count.ensures.columns.descending)) has m
    ∙ subtracted p (value c.args.c) (value c.neg.result) (listed ks ms (drop i.from ns)) (terms_of value ms terms) (g.met.F.Field.below c.args.c) c.neg.ensures m
    ∙ ap (λ v. coefficient p (difference p v.1 (scaled (value c.args.c) (terms_of value v.0 terms))) m) c.self.view_is
