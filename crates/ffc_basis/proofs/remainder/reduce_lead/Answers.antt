use Rattle.std.proofs.Common.{◌++◌, refl, sym, subst}
use Rattle.ffc_ring.specs.Polynomial.{Terms}
use Rattle.ffc_dense.specs.Tables.{AreMultiplesOf}
use Rattle.ffc_line.specs.Lines.{Parts, polys_of}
use Rattle.ffc_basis.specs.Reduction.{IsReduced}
use Rattle.ffc_basis.specs.Remainders.{front_of, whole_of}
use Rattle.ffc_basis.proofs.Lists.{on_ok}
use Rattle.ffc_basis.proofs.SplitLemmas.{continues_same, continues_both, split_same, whole_same}
use Rattle.ffc_basis.proofs.remainder.reduce_lead.Goals as goal

pub cancel_lead-requires-clause-split : goal.cancel_lead-requires-clause-split
cancel_lead-requires-clause-split g c =
    split_same g.F.Field.ORDER g.met.F.Field.prime g.O.MonoOrder.cmp g.met.O.MonoOrder.laws (front_of g.F.Field.value c.args.rest.now) c.args.rest.now.left.0 c.held_step.new.left.0 c.args.rest.now.most c.held_step.ensures.same c.requires.split

pub cancel_lead-requires-clause-multiples : goal.cancel_lead-requires-clause-multiples
cancel_lead-requires-clause-multiples g c = subst (AreMultiplesOf g.F.Field.ORDER (polys_of c.args.lines.now)) (sym c.held_step.ensures.multiples) c.requires.multiples

pub returns-in-Some-clause-reduced : goal.returns-in-Some-clause-reduced
returns-in-Some-clause-reduced g c =
    on_ok c.cancel_lead.result (λ _. subst (IsReduced g.F.Field.ORDER g.O.MonoOrder.cmp (polys_of c.args.lines.now)) (sym c.cancel_lead.ensures.front) c.requires.reduced) c.cancel_lead.ensures.split

pub returns-in-Some-clause-continues : goal.returns-in-Some-clause-continues
returns-in-Some-clause-continues g c =
    let p = g.F.Field.ORDER in
    let cmp = g.O.MonoOrder.cmp in
    let gs = polys_of c.args.lines.now in
    let front : Terms = front_of g.F.Field.value c.args.rest.now in
    let left : Terms = c.args.rest.now.left.0 in
    let new : Terms = c.held_step.new.left.0 in
    let items : Parts = c.args.parts.now in
    let same = continues_same p cmp gs (front ++ left) (front ++ new) items items c.args.meter.now c.args.meter.now
    (λ n. sym (whole_same p g.met.F.Field.prime cmp g.met.O.MonoOrder.laws front left new c.held_step.ensures.same n)) refl refl in
    on_ok c.cancel_lead.result
    (λ go. continues_both p cmp gs (front ++ left) (front ++ new) (whole_of g.F.Field.value c.cancel_lead.new.rest) items items c.cancel_lead.new.parts c.args.meter.now c.args.meter.now c.cancel_lead.new.meter same go)
    c.cancel_lead.ensures.continues

pub search_lead-requires-clause-split : goal.search_lead-requires-clause-split
search_lead-requires-clause-split g c =
    split_same g.F.Field.ORDER g.met.F.Field.prime g.O.MonoOrder.cmp g.met.O.MonoOrder.laws (front_of g.F.Field.value c.args.rest.now) c.args.rest.now.left.0 c.held_step.new.left.0 c.args.rest.now.most c.held_step.ensures.same c.requires.split

pub search_lead-requires-clause-multiples : goal.search_lead-requires-clause-multiples
search_lead-requires-clause-multiples g c = subst (AreMultiplesOf g.F.Field.ORDER (polys_of c.args.lines.now)) (sym c.held_step.ensures.multiples) c.requires.multiples

pub returns-in-None-clause-continues : goal.returns-in-None-clause-continues
returns-in-None-clause-continues g c =
    let p = g.F.Field.ORDER in
    let cmp = g.O.MonoOrder.cmp in
    let gs = polys_of c.args.lines.now in
    let front : Terms = front_of g.F.Field.value c.args.rest.now in
    let left : Terms = c.args.rest.now.left.0 in
    let new : Terms = c.held_step.new.left.0 in
    let items : Parts = c.args.parts.now in
    let same = continues_same p cmp gs (front ++ left) (front ++ new) items items c.args.meter.now c.args.meter.now
    (λ n. sym (whole_same p g.met.F.Field.prime cmp g.met.O.MonoOrder.laws front left new c.held_step.ensures.same n)) refl refl in
    on_ok c.search_lead.result
    (λ go. continues_both p cmp gs (front ++ left) (front ++ new) (whole_of g.F.Field.value c.search_lead.new.rest) items items c.search_lead.new.parts c.args.meter.now c.args.meter.now c.search_lead.new.meter same go)
    c.search_lead.ensures.continues
