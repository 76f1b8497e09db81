use Rattle.std.proofs.Common.{◌≡◌, ◌-◌, ◌∙◌, refl, sym, ap, subst}
use Rattle.ffc_ring.specs.Polynomial.{coefficient, scaled, difference, term_product}
use Rattle.ffc_ring.proofs.PolynomialLemmas.{same_sums}
use Rattle.ffc_dense.specs.Tables.{AreMultiplesOf, HasMultiple, multiples_of}
use Rattle.ffc_dense.proofs.table.Table.subtract_multiple.Goals as goal

pub subtract_held-requires-clause-held : goal.subtract_held-requires-clause-held
subtract_held-requires-clause-held g c =
    subst (λ ks. HasMultiple ks c.first_number-slot.result c.args.line c.args.m.now) (c.as_slice.ensures.value ∙ sym c.as_slice-kept.ensures.value) (c.holds.ensures c.if-holds.true)

pub returns-then-holds-clause-difference : goal.returns-then-holds-clause-difference
returns-then-holds-clause-difference g c done gs all there m =
    let value = g.F.Field.value in
    let p = g.F.Field.ORDER in
    let i = c.self.inside in
    let multiples = subst (λ ks. AreMultiplesOf p gs (multiples_of value i.dense.0 ks)) (sym c.as_slice-kept.ensures.value) (subst (AreMultiplesOf p gs) (ap (λ v. v.1) (sym c.self.view_is)) all) in
    c.subtract_held.ensures.difference done gs multiples there m
    ∙ ap (λ v. coefficient p (difference p v.0 (term_product (value c.args.c) c.args.m.now c.args.q.now)) m) c.self.view_is

pub returns-in_err-done-clause-multiples : goal.returns-in_err-done-clause-multiples
returns-in_err-done-clause-multiples g c gs all there =
    c.keep.ensures.multiples gs (subst (AreMultiplesOf g.F.Field.ORDER gs) (ap (λ v. v.1) (sym c.self.view_is)) all) there

pub returns-then-not-done-clause-multiples : goal.returns-then-not-done-clause-multiples
returns-then-not-done-clause-multiples g c gs all there =
    c.keep.ensures.multiples gs (subst (AreMultiplesOf g.F.Field.ORDER gs) (ap (λ v. v.1) (sym c.self.view_is)) all) there

pub subtract_held-requires-2-clause-held : goal.subtract_held-requires-2-clause-held
subtract_held-requires-2-clause-held g c =
    subst (λ ks. HasMultiple ks c.first_number-slot.result c.args.line c.args.m.now) (sym c.as_slice-kept-2.ensures.value) (c.in_ok-done.ensures.at c.if-not-done.false)

pub returns-clause-difference : goal.returns-clause-difference
returns-clause-difference g c done gs all there m =
    let value = g.F.Field.value in
    let p = g.F.Field.ORDER in
    let i = c.self.inside in
    let new = c.keep.new.dense in
    let multiple = term_product (value c.args.c) c.args.m.now c.args.q.now in
    let now = c.keep.ensures.multiples gs (subst (AreMultiplesOf p gs) (ap (λ v. v.1) (sym c.self.view_is)) all) there in
    let multiples = subst (λ ks. AreMultiplesOf p gs (multiples_of value new.0 ks)) (sym c.as_slice-kept-2.ensures.value) now in
    c.subtract_held-2.ensures.difference done gs multiples there m
    ∙ same_sums p new.1 i.dense.1 (scaled (p - 1) multiple) (scaled (p - 1) multiple) c.keep.ensures.monomials.same (λ n. refl) m
    ∙ ap (λ v. coefficient p (difference p v.0 multiple) m) c.self.view_is

pub returns-clause-multiples : goal.returns-clause-multiples
returns-clause-multiples g c gs all there =
    let value = g.F.Field.value in
    let p = g.F.Field.ORDER in
    let now = c.keep.ensures.multiples gs (subst (AreMultiplesOf p gs) (ap (λ v. v.1) (sym c.self.view_is)) all) there in
    subst (λ ms. AreMultiplesOf p gs (multiples_of value ms c.keep.new.kept.items)) (sym c.subtract_held-2.ensures.monomials) now
