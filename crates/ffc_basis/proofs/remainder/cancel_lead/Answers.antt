use Rattle.std.proofs.Common.{◌≡◌, List, [], ◌++◌, ◌+◌, length, get_or, refl, sym, ap, ap₂, ◌∙◌, subst, arith}
use Rattle.ffc_ring.specs.Polynomial.{Terms, AreTerms, coefficient, SamePolynomial, term_product, difference}
use Rattle.ffc_dense.specs.Tables.{AreMultiplesOf, Multiple}
use Rattle.ffc_line.specs.Lines.{Parts, polys_of}
use Rattle.ffc_basis.specs.Reduction.{IsReduced}
use Rattle.ffc_basis.specs.Remainders.{Continues, IsSplit, IsStepOfLead, front_of, whole_of}
use Rattle.ffc_basis.proofs.Lists.{length-polys, poly_at}
use Rattle.ffc_basis.proofs.OrderedTerms.{AreTerms-ordered}
use Rattle.ffc_basis.proofs.SplitLemmas.{cancelled_splits, cancelled_continues, continues_same, split_same, whole_stays}
use Rattle.ffc_basis.proofs.KeptLemmas.{line_is}
use Rattle.ffc_basis.proofs.remainder.cancel_lead.Goals as goal

pub returns-then-not-branch-clause-split : goal.returns-then-not-branch-clause-split
returns-then-not-branch-clause-split g c =
    let p = g.F.Field.ORDER in
    let cmp = g.O.MonoOrder.cmp in
    let mid = c.tighten.new.rest in
    let new = c.subtract_within.new.rest in
    let stays = c.in_ok-subtract_within.ensures.stays c.if-not-branch.true in
    subst (λ ts. IsSplit p cmp ts new.left.0 new.most) (sym c.subtract_within.ensures.front)
    (subst (λ n. IsSplit p cmp (front_of g.F.Field.value mid) new.left.0 n) (sym stays.1)
    (split_same p g.met.F.Field.prime cmp g.met.O.MonoOrder.laws (front_of g.F.Field.value mid) mid.left.0 new.left.0 mid.most stays.0 c.tighten.ensures.split))

pub returns-then-not-branch-clause-continues : goal.returns-then-not-branch-clause-continues
returns-then-not-branch-clause-continues g c =
    let p = g.F.Field.ORDER in
    let cmp = g.O.MonoOrder.cmp in
    let value = g.F.Field.value in
    let old = c.args.rest.now in
    let new = c.subtract_within.new.rest in
    let items : Parts = c.args.parts.now in
    let stays = c.in_ok-subtract_within.ensures.stays c.if-not-branch.true in
    continues_same p cmp (polys_of c.args.lines.now) (whole_of value old) (whole_of value new) items items c.args.meter.now c.args.meter.now
    (whole_stays p g.met.F.Field.prime cmp g.met.O.MonoOrder.laws (front_of value old) (front_of value new) old.left.0 new.left.0 (c.subtract_within.ensures.front ∙ c.tighten.ensures.front)
    (λ m. stays.0 m ∙ ap (λ (l : Terms × List Multiple). coefficient p l.0 m) c.tighten.ensures.left)) refl refl

pub returns-then-not-branch-clause-multiples : goal.returns-then-not-branch-clause-multiples
returns-then-not-branch-clause-multiples g c =
    let gs = polys_of c.args.lines.now in
    c.subtract_within.ensures.multiples gs
    (subst (λ (l : Terms × List Multiple). AreMultiplesOf g.F.Field.ORDER gs l.1) (sym c.tighten.ensures.left) c.requires.multiples)
    (line_is c.args.lines.now c.args.step.now.line c.index-lines-step.result c.requires.step.3.within)

pub returns-clause-multiples : goal.returns-clause-multiples
returns-clause-multiples g c =
    let gs = polys_of c.args.lines.now in
    c.subtract_within.ensures.multiples gs
    (subst (λ (l : Terms × List Multiple). AreMultiplesOf g.F.Field.ORDER gs l.1) (sym c.tighten.ensures.left) c.requires.multiples)
    (line_is c.args.lines.now c.args.step.now.line c.index-lines-step.result c.requires.step.3.within)

pub returns-clause-split : goal.returns-clause-split
returns-clause-split g c =
    let p = g.F.Field.ORDER in
    let cmp = g.O.MonoOrder.cmp in
    let ls = c.args.lines.now in
    let gs = polys_of ls in
    let step = c.args.step.now in
    let k = g.F.Field.value step.coefficient in
    let line : Terms = (get_or ls step.line c.index-lines-step.result).poly in
    let is : get_or gs step.line [] ≡ line = poly_at ls step.line c.index-lines-step.result (omega (arith, c.requires.step.3.within, length-polys ls)) in
    let mid = c.tighten.new.rest in
    let front : Terms = front_of g.F.Field.value mid in
    let left : Terms = mid.left.0 in
    let most = mid.most in
    let next : Terms = c.subtract_within.new.rest.left.0 in
    let sum = c.subtract_within.new.rest.most in
    let there : IsStepOfLead p cmp gs left step.line k step.monomial =
    subst (λ (l : Terms × List Multiple). IsStepOfLead p cmp gs l.0 step.line k step.monomial) (sym c.tighten.ensures.left) c.requires.step in
    let kept : AreMultiplesOf p gs mid.left.1 = subst (λ (l : Terms × List Multiple). AreMultiplesOf p gs l.1) (sym c.tighten.ensures.left) c.requires.multiples in
    let same : SamePolynomial p next (difference p left (term_product k step.monomial (get_or gs step.line []))) =
    subst (λ ts. SamePolynomial p next (difference p left (term_product k step.monomial ts))) (sym is)
    (c.in_ok-subtract_within.ensures.subtracted c.if-not-branch.false gs kept (line_is ls step.line c.index-lines-step.result c.requires.step.3.within)) in
    subst (λ ts. IsSplit p cmp ts next sum) (sym c.subtract_within.ensures.front)
    (cancelled_splits p g.met.F.Field.prime cmp g.met.O.MonoOrder.laws gs step.line k step.monomial front left next most c.tighten.ensures.split there c.degree-degree.ensures.monomial (g.met.F.Field.below step.coefficient)
    (subst AreTerms (sym is) (AreTerms-ordered p cmp 1024 line c.len-length.ensures.ordered)) same sum
    (c.in_ok-subtract_within.ensures.most c.if-not-branch.false ∙ ap (λ (ts : Terms). most + length ts) (sym is))
    (c.in_ok-subtract_within.ensures.within c.if-not-branch.false))

pub returns-clause-continues : goal.returns-clause-continues
returns-clause-continues g c =
    let p = g.F.Field.ORDER in
    let cmp = g.O.MonoOrder.cmp in
    let value = g.F.Field.value in
    let ls = c.args.lines.now in
    let gs = polys_of ls in
    let step = c.args.step.now in
    let k = value step.coefficient in
    let line : Terms = (get_or ls step.line c.index-lines-step.result).poly in
    let is : get_or gs step.line [] ≡ line = poly_at ls step.line c.index-lines-step.result (omega (arith, c.requires.step.3.within, length-polys ls)) in
    let mid = c.tighten.new.rest in
    let front : Terms = front_of value mid in
    let left : Terms = mid.left.0 in
    let next : Terms = c.subtract_within.new.rest.left.0 in
    let old : Parts = c.args.parts.now in
    let new : Parts = c.record_within.new.parts in
    let there : IsStepOfLead p cmp gs left step.line k step.monomial =
    subst (λ (l : Terms × List Multiple). IsStepOfLead p cmp gs l.0 step.line k step.monomial) (sym c.tighten.ensures.left) c.requires.step in
    let kept : AreMultiplesOf p gs mid.left.1 = subst (λ (l : Terms × List Multiple). AreMultiplesOf p gs l.1) (sym c.tighten.ensures.left) c.requires.multiples in
    let same : SamePolynomial p next (difference p left (term_product k step.monomial (get_or gs step.line []))) =
    subst (λ ts. SamePolynomial p next (difference p left (term_product k step.monomial ts))) (sym is)
    (c.in_ok-subtract_within.ensures.subtracted c.if-not-branch.false gs kept (line_is ls step.line c.index-lines-step.result c.requires.step.3.within)) in
    let whole : front ++ left ≡ whole_of value c.args.rest.now = ap₂ (λ (ts : Terms) (l : Terms × List Multiple). ts ++ l.0) c.tighten.ensures.front c.tighten.ensures.left in
    subst (λ ts. Continues p cmp gs ts old c.args.meter.now (whole_of value c.subtract_within.new.rest) new c.take.new.self) whole
    (subst (λ ts. Continues p cmp gs (front ++ left) old c.args.meter.now (ts ++ next) new c.take.new.self) (sym c.subtract_within.ensures.front)
    (cancelled_continues p g.met.F.Field.prime cmp g.met.O.MonoOrder.laws gs step.line k step.monomial front left next mid.most c.tighten.ensures.split there c.degree-degree.ensures.monomial (g.met.F.Field.below step.coefficient)
    (subst AreTerms (sym is) (AreTerms-ordered p cmp 1024 line c.len-length.ensures.ordered)) same old new c.args.meter.now c.take.new.self
    (subst (IsReduced p cmp gs) (sym c.tighten.ensures.front) c.requires.reduced)
    c.in_ok-record_within.ensures.recorded c.in_ok-record_within.ensures.lines c.in_ok-take.ensures.taken))
