use Rattle.std.proofs.Common.{◌++◌, IfSome, IfNone, refl, sym, ◌∙◌, subst}
use Rattle.ffc_ring.specs.Monomial.{Monomial}
use Rattle.ffc_ring.specs.Polynomial.{Terms}
use Rattle.ffc_mono.specs.Leading.{IsLeading}
use Rattle.ffc_dense.specs.Tables.{AreMultiplesOf}
use Rattle.ffc_line.specs.Lines.{Parts, polys_of}
use Rattle.ffc_basis.specs.Reduction.{IsIrreducible, IsReduced, IsStep}
use Rattle.ffc_basis.specs.Remainders.{front_of, whole_of}
use Rattle.ffc_basis.proofs.Lists.{on_ok}
use Rattle.ffc_basis.proofs.SplitLemmas.{continues_same, continues_both, split_same, whole_same, lead_irreducible, step_same}
use Rattle.ffc_basis.proofs.remainder.search_lead.Goals as goal

pub returns-in_default-clause-split : goal.returns-in_default-clause-split
returns-in_default-clause-split g c =
    split_same g.F.Field.ORDER g.met.F.Field.prime g.O.MonoOrder.cmp g.met.O.MonoOrder.laws (front_of g.F.Field.value c.args.rest.now) c.args.rest.now.left.0 c.lead.new.self.0 c.args.rest.now.most c.lead.ensures.same c.requires.split

pub returns-in_default-clause-continues : goal.returns-in_default-clause-continues
returns-in_default-clause-continues g c =
    let p = g.F.Field.ORDER in
    let cmp = g.O.MonoOrder.cmp in
    let front : Terms = front_of g.F.Field.value c.args.rest.now in
    let left : Terms = c.args.rest.now.left.0 in
    let new : Terms = c.lead.new.self.0 in
    let items : Parts = c.args.parts.now in
    continues_same p cmp (polys_of c.args.lines.now) (front ++ left) (front ++ new) items items c.args.meter.now c.args.meter.now
    (λ n. sym (whole_same p g.met.F.Field.prime cmp g.met.O.MonoOrder.laws front left new c.lead.ensures.same n)) refl refl

pub returns-in_default-clause-multiples : goal.returns-in_default-clause-multiples
returns-in_default-clause-multiples g c = subst (AreMultiplesOf g.F.Field.ORDER (polys_of c.args.lines.now)) (sym c.lead.ensures.multiples) c.requires.multiples

pub finish-requires : goal.finish-requires
finish-requires g c =
    split_same g.F.Field.ORDER g.met.F.Field.prime g.O.MonoOrder.cmp g.met.O.MonoOrder.laws (front_of g.F.Field.value c.args.rest.now) c.args.rest.now.left.0 c.lead.new.self.0 c.args.rest.now.most c.lead.ensures.same c.requires.split

pub returns-in-None-clause-reduced : goal.returns-in-None-clause-reduced
returns-in-None-clause-reduced g c =
    let p = g.F.Field.ORDER in
    let cmp = g.O.MonoOrder.cmp in
    let value = g.F.Field.value in
    let gs = polys_of c.args.lines.now in
    let left : Terms = c.args.rest.now.left.0 in
    let new : Terms = c.lead.new.self.0 in
    let m : Monomial = c.in-Some.first.1 in
    let leads : IsLeading p cmp left (value c.in-Some.first.0) m = subst (λ o. IfSome o (λ t. IsLeading p cmp left (value t.0) t.1)) c.in-Some.is c.in_ok-first.ensures.leading in
    let none : IsIrreducible p cmp gs m =
    subst (IsIrreducible p cmp gs) c.as_ref.ensures (subst (λ o. IfNone o (IsIrreducible p cmp gs c.as_ref.result.powers.now)) c.in-None.is c.in_ok-step_at.ensures.none) in
    c.in_ok-finish-in-None.ensures.reduced gs
    (λ d n lead. lead_irreducible p g.met.F.Field.prime cmp g.met.O.MonoOrder.laws gs left new (value c.in-Some.first.0) d m n c.lead.ensures.same leads none lead)
    c.requires.reduced

pub returns-in-None-clause-continues : goal.returns-in-None-clause-continues
returns-in-None-clause-continues g c =
    let p = g.F.Field.ORDER in
    let cmp = g.O.MonoOrder.cmp in
    let front : Terms = front_of g.F.Field.value c.args.rest.now in
    let left : Terms = c.args.rest.now.left.0 in
    let new : Terms = c.lead.new.self.0 in
    let items : Parts = c.args.parts.now in
    continues_same p cmp (polys_of c.args.lines.now) (front ++ left) (whole_of g.F.Field.value c.finish.new.rest) items items c.args.meter.now c.args.meter.now
    (λ n. sym (c.in_ok-finish-in-None.ensures.same n ∙ whole_same p g.met.F.Field.prime cmp g.met.O.MonoOrder.laws front left new c.lead.ensures.same n)) refl refl

pub returns-in-None-clause-multiples : goal.returns-in-None-clause-multiples
returns-in-None-clause-multiples g c =
    subst (AreMultiplesOf g.F.Field.ORDER (polys_of c.args.lines.now)) (sym (c.finish.ensures.multiples ∙ c.lead.ensures.multiples)) c.requires.multiples

pub cancel_lead-requires-clause-multiples : goal.cancel_lead-requires-clause-multiples
cancel_lead-requires-clause-multiples g c = subst (AreMultiplesOf g.F.Field.ORDER (polys_of c.args.lines.now)) (sym c.lead.ensures.multiples) c.requires.multiples

pub cancel_lead-requires-clause-split : goal.cancel_lead-requires-clause-split
cancel_lead-requires-clause-split g c =
    split_same g.F.Field.ORDER g.met.F.Field.prime g.O.MonoOrder.cmp g.met.O.MonoOrder.laws (front_of g.F.Field.value c.args.rest.now) c.args.rest.now.left.0 c.lead.new.self.0 c.args.rest.now.most c.lead.ensures.same c.requires.split

pub cancel_lead-requires-clause-step : goal.cancel_lead-requires-clause-step
cancel_lead-requires-clause-step g c =
    let p = g.F.Field.ORDER in
    let cmp = g.O.MonoOrder.cmp in
    let value = g.F.Field.value in
    let gs = polys_of c.args.lines.now in
    let left : Terms = c.args.rest.now.left.0 in
    let new : Terms = c.lead.new.self.0 in
    let m : Monomial = c.in-Some.first.1 in
    let step = c.in-Some-2.step in
    let leads : IsLeading p cmp left (value c.in-Some.first.0) m = subst (λ o. IfSome o (λ t. IsLeading p cmp left (value t.0) t.1)) c.in-Some.is c.in_ok-first.ensures.leading in
    let found : IsStep p cmp gs (value c.in-Some.first.0) c.as_ref.result.powers.now step.line (value step.coefficient) step.monomial =
    subst (λ o. IfSome o (λ s. IsStep p cmp gs (value c.in-Some.first.0) c.as_ref.result.powers.now s.line (value s.coefficient) s.monomial)) c.in-Some-2.is c.in_ok-step_at.ensures.some in
    step_same p g.met.F.Field.prime cmp g.met.O.MonoOrder.laws gs left new (value c.in-Some.first.0) m step.line (value step.coefficient) step.monomial c.lead.ensures.same leads
    (subst (λ x. IsStep p cmp gs (value c.in-Some.first.0) x step.line (value step.coefficient) step.monomial) c.as_ref.ensures found)

pub returns-clause-reduced : goal.returns-clause-reduced
returns-clause-reduced g c =
    on_ok c.cancel_lead.result (λ _. subst (IsReduced g.F.Field.ORDER g.O.MonoOrder.cmp (polys_of c.args.lines.now)) (sym c.cancel_lead.ensures.front) c.requires.reduced) c.cancel_lead.ensures.split

pub returns-clause-continues : goal.returns-clause-continues
returns-clause-continues g c =
    let p = g.F.Field.ORDER in
    let cmp = g.O.MonoOrder.cmp in
    let gs = polys_of c.args.lines.now in
    let front : Terms = front_of g.F.Field.value c.args.rest.now in
    let left : Terms = c.args.rest.now.left.0 in
    let new : Terms = c.lead.new.self.0 in
    let items : Parts = c.args.parts.now in
    let same = continues_same p cmp gs (front ++ left) (front ++ new) items items c.args.meter.now c.args.meter.now
    (λ n. sym (whole_same p g.met.F.Field.prime cmp g.met.O.MonoOrder.laws front left new c.lead.ensures.same n)) refl refl in
    on_ok c.cancel_lead.result
    (λ go. continues_both p cmp gs (front ++ left) (front ++ new) (whole_of g.F.Field.value c.cancel_lead.new.rest) items items c.cancel_lead.new.parts c.args.meter.now c.args.meter.now c.cancel_lead.new.meter same go)
    c.cancel_lead.ensures.continues
