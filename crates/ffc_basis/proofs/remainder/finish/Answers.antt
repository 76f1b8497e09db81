use Rattle.std.proofs.Common.{[], ◌∷◌, ◌++◌, is_some, IfSome, MatchOption, sym, ap, ◌∙◌, subst}
use Rattle.ffc_ring.specs.Monomial.{Monomial}
use Rattle.ffc_ring.specs.Polynomial.{Terms, SamePolynomial}
use Rattle.ffc_mono.specs.Leading.{IsLeading}
use Rattle.ffc_basis.specs.Reduction.{IsReduced}
use Rattle.ffc_basis.specs.Remainders.{IsSplit, front_of}
use Rattle.ffc_basis.proofs.SplitLemmas.{split_same, whole_same, front_pushed, finished_same, finished_splits, finished_reduced}
use Rattle.ffc_basis.proofs.remainder.finish.Goals as goal

pub returns-in-None-clause-split : goal.returns-in-None-clause-split
returns-in-None-clause-split g c =
    let p = g.F.Field.ORDER in
    let old : Terms = c.args.rest.now.left.0 in
    let new : Terms = c.take_lead.new.self.0 in
    let gone : SamePolynomial p new [] =
    subst (λ o. MatchOption o (SamePolynomial p new []) (λ t. SamePolynomial p old ((g.F.Field.value t.0, t.1) ∷ new))) c.in-None.is c.in_ok-take_lead.ensures.rest in
    let none : SamePolynomial p old [] = c.in_ok-take_lead.ensures.zero.0 (ap is_some c.in-None.is) in
    split_same p g.met.F.Field.prime g.O.MonoOrder.cmp g.met.O.MonoOrder.laws (front_of g.F.Field.value c.args.rest.now) old new c.args.rest.now.most (λ m. gone m ∙ sym (none m)) c.requires

pub returns-in-None-clause-same : goal.returns-in-None-clause-same
returns-in-None-clause-same g c =
    let p = g.F.Field.ORDER in
    let old : Terms = c.args.rest.now.left.0 in
    let new : Terms = c.take_lead.new.self.0 in
    let gone : SamePolynomial p new [] =
    subst (λ o. MatchOption o (SamePolynomial p new []) (λ t. SamePolynomial p old ((g.F.Field.value t.0, t.1) ∷ new))) c.in-None.is c.in_ok-take_lead.ensures.rest in
    let none : SamePolynomial p old [] = c.in_ok-take_lead.ensures.zero.0 (ap is_some c.in-None.is) in
    whole_same p g.met.F.Field.prime g.O.MonoOrder.cmp g.met.O.MonoOrder.laws (front_of g.F.Field.value c.args.rest.now) old new (λ m. gone m ∙ sym (none m))

pub returns-in_ok-push-in-Some-clause-split : goal.returns-in_ok-push-in-Some-clause-split
returns-in_ok-push-in-Some-clause-split g c =
    let p = g.F.Field.ORDER in
    let value = g.F.Field.value in
    let cmp = g.O.MonoOrder.cmp in
    let old : Terms = c.args.rest.now.left.0 in
    let new : Terms = c.take_lead.new.self.0 in
    let most = c.args.rest.now.most in
    let m : Monomial = c.in-Some.lead.1 in
    let leads : IsLeading p cmp old (value c.in-Some.lead.0) m = subst (λ o. IfSome o (λ t. IsLeading p cmp old (value t.0) t.1)) c.in-Some.is c.in_ok-take_lead.ensures.leading in
    let rest : SamePolynomial p old ((value c.in-Some.lead.0, m) ∷ new) =
    subst (λ o. MatchOption o (SamePolynomial p new []) (λ t. SamePolynomial p old ((value t.0, t.1) ∷ new))) c.in-Some.is c.in_ok-take_lead.ensures.rest in
    subst (λ (ts : Terms). IsSplit p cmp ts new most) (sym (front_pushed value c.args.rest.now.finished.items c.push.new.self.items c.in-Some.lead c.in_ok-push-in-Some.ensures.items))
    (finished_splits p g.met.F.Field.prime cmp g.met.O.MonoOrder.laws (front_of value c.args.rest.now) old new most (value c.in-Some.lead.0) m c.requires leads rest)

pub returns-in_ok-push-in-Some-clause-same : goal.returns-in_ok-push-in-Some-clause-same
returns-in_ok-push-in-Some-clause-same g c =
    let p = g.F.Field.ORDER in
    let value = g.F.Field.value in
    let old : Terms = c.args.rest.now.left.0 in
    let new : Terms = c.take_lead.new.self.0 in
    let front : Terms = front_of value c.args.rest.now in
    let m : Monomial = c.in-Some.lead.1 in
    let rest : SamePolynomial p old ((value c.in-Some.lead.0, m) ∷ new) =
    subst (λ o. MatchOption o (SamePolynomial p new []) (λ t. SamePolynomial p old ((value t.0, t.1) ∷ new))) c.in-Some.is c.in_ok-take_lead.ensures.rest in
    subst (λ (ts : Terms). SamePolynomial p (ts ++ new) (front ++ old)) (sym (front_pushed value c.args.rest.now.finished.items c.push.new.self.items c.in-Some.lead c.in_ok-push-in-Some.ensures.items))
    (finished_same p g.met.F.Field.prime g.O.MonoOrder.cmp g.met.O.MonoOrder.laws front old new (value c.in-Some.lead.0) m rest)

pub returns-in_ok-push-in-Some-clause-reduced : goal.returns-in_ok-push-in-Some-clause-reduced
returns-in_ok-push-in-Some-clause-reduced g c = λ gs all reduced.
    let p = g.F.Field.ORDER in
    let value = g.F.Field.value in
    let cmp = g.O.MonoOrder.cmp in
    let old : Terms = c.args.rest.now.left.0 in
    let m : Monomial = c.in-Some.lead.1 in
    let leads : IsLeading p cmp old (value c.in-Some.lead.0) m = subst (λ o. IfSome o (λ t. IsLeading p cmp old (value t.0) t.1)) c.in-Some.is c.in_ok-take_lead.ensures.leading in
    subst (IsReduced p cmp gs) (sym (front_pushed value c.args.rest.now.finished.items c.push.new.self.items c.in-Some.lead c.in_ok-push-in-Some.ensures.items))
    (finished_reduced p g.met.F.Field.prime cmp g.met.O.MonoOrder.laws gs (front_of value c.args.rest.now) (value c.in-Some.lead.0) m reduced (all (value c.in-Some.lead.0) m leads))
