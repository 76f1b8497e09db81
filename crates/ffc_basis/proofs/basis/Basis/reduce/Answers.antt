use Rattle.std.proofs.Common.{◌≡◌, [], ◌++◌, sym, ap, ◌∙◌, subst, arith, IfOk, IfNone, IfSome}
use Rattle.ffc_ring.specs.Polynomial.{SamePolynomial, coefficient, difference}
use Rattle.ffc_dense.specs.Tables.{AreMultiplesOf}
use Rattle.ffc_basis.specs.Completion.{ReducesToZero}
use Rattle.ffc_line.specs.Lines.{polys_of, combination}
use Rattle.ffc_basis.specs.Reduction.{IsReduction, ArePartsAtMost, IsReduced, IsStopped}
use Rattle.ffc_basis.proofs.Lists.{if_ok}
use Rattle.ffc_basis.proofs.OrderedTerms.{lists_of_polynomials}
use Rattle.ffc_basis.proofs.ReductionLemmas.{rest_is_difference}
use Rattle.ffc_basis.proofs.basis.Basis.reduce.Goals as goal

pub returns-clause-difference : goal.returns-clause-difference
returns-clause-difference g c =
    let p = g.F.Field.ORDER in
    let cmp = g.O.MonoOrder.cmp in
    let poly = c.args.poly.now in
    let gs = polys_of c.as_slice.result.now in
    subst (λ ls. IfOk c.reduce_by.result (λ r. SamePolynomial p r.rest (difference p poly (combination (polys_of ls) r.parts.items)))) (c.as_slice.ensures.value ∙ c.self.view_is)
    (if_ok c.reduce_by.result (λ r. IsReduction p cmp gs poly r.rest r.parts.items) (λ r. SamePolynomial p r.rest (difference p poly (combination gs r.parts.items)))
    (λ r h. rest_is_difference p (omega (arith, g.met.F.Field.prime.least)) poly r.rest (combination gs r.parts.items) h.whole) c.reduce_by.ensures.reduction)

pub returns-clause-at_most : goal.returns-clause-at_most
returns-clause-at_most g c =
    let p = g.F.Field.ORDER in
    let cmp = g.O.MonoOrder.cmp in
    let poly = c.args.poly.now in
    let gs = polys_of c.as_slice.result.now in
    subst (λ ls. IfOk c.reduce_by.result (λ r. ArePartsAtMost p cmp (polys_of ls) poly r.parts.items)) (c.as_slice.ensures.value ∙ c.self.view_is)
    (if_ok c.reduce_by.result (λ r. IsReduction p cmp gs poly r.rest r.parts.items) (λ r. ArePartsAtMost p cmp gs poly r.parts.items) (λ r h. h.at_most) c.reduce_by.ensures.reduction)

pub returns-clause-zero : goal.returns-clause-zero
returns-clause-zero g c =
    let p = g.F.Field.ORDER in
    let cmp = g.O.MonoOrder.cmp in
    let poly = c.args.poly.now in
    let gs = polys_of c.as_slice.result.now in
    subst (λ ls. IfOk c.reduce_by.result (λ r. r.rest ≡ [] → ReducesToZero p cmp (polys_of ls) poly)) (c.as_slice.ensures.value ∙ c.self.view_is)
    (if_ok c.reduce_by.result (λ r. IsReduction p cmp gs poly r.rest r.parts.items) (λ r. r.rest ≡ [] → ReducesToZero p cmp gs poly)
    (λ r h none. (r.parts.items, h.before, h.at_most, (λ m. h.whole m ∙ ap (λ ts. coefficient p (ts ++ combination gs r.parts.items) m) none), lists_of_polynomials p cmp r.parts.items h.polynomials))
    c.reduce_by.ensures.reduction)

pub returns-clause-reduced : goal.returns-clause-reduced
returns-clause-reduced g c =
    subst (λ ls. IfOk c.reduce_by.result (λ r. IfNone r.over (IsReduced g.F.Field.ORDER g.O.MonoOrder.cmp (polys_of ls) r.rest))) (c.as_slice.ensures.value ∙ c.self.view_is) c.reduce_by.ensures.reduced

pub returns-clause-over : goal.returns-clause-over
returns-clause-over g c =
    subst (λ ls. IfOk c.reduce_by.result (λ r. IfSome r.over (λ t. IsStopped g.F.Field.ORDER g.O.MonoOrder.cmp (polys_of ls) r.rest r.parts.items t.0 t.1))) (c.as_slice.ensures.value ∙ c.self.view_is) c.reduce_by.ensures.over

pub reduce_by-requires-clause-table : goal.reduce_by-requires-clause-table
reduce_by-requires-clause-table g c =
    subst (λ ls. AreMultiplesOf g.F.Field.ORDER (polys_of ls) c.self.inside.table.1) (sym c.as_slice.ensures.value) c.self.invariant.4

pub invariant_of-self : goal.invariant_of-self
invariant_of-self g c =
    let multiples = subst (λ ls. AreMultiplesOf g.F.Field.ORDER (polys_of ls) c.reduce_by.new.table.1) c.as_slice.ensures.value c.reduce_by.ensures.table in
    (c.self.invariant.0, c.self.invariant.1, c.self.invariant.2, c.self.invariant.3, multiples)
