use Rattle.std.proofs.Common.{[], get_or, refl, sym, subst, inl, inr, arith, IfNone, IfSome}
use Rattle.std.proofs.lemmas.Bool.{cases_eq}
use Rattle.ffc_ring.specs.Monomial.{Monomial}
use Rattle.ffc_ring.specs.Polynomial.{Terms}
use Rattle.ffc_mono.specs.declared.mono.TheConstants.{DEGREE_LIMIT}
use Rattle.ffc_line.specs.Lines.{Parts, polys_of}
use Rattle.ffc_basis.specs.Reduction.{IsIrreducible, AreIrreducible, IsStep, IsStopped}
use Rattle.ffc_basis.specs.Remainders.{IsRecordedReduction, IsUnderway}
use Rattle.ffc_basis.proofs.Lists.{length-polys}
use Rattle.ffc_basis.proofs.SplitLemmas.{begins_underway, ends_underway}
use Rattle.ffc_basis.proofs.ReductionLemmas.{reduction_begins, reduced_from_terms, stopped}
use Rattle.ffc_basis.proofs.BoundLemmas.{counted_begins, counted_next, counted_is_bounded, attempt_at}
use Rattle.ffc_basis.proofs.UnitLemmas.{takes_nothing, takes_both, takes_next, takes_no_less}
use Rattle.ffc_basis.proofs.reduction.reduce_recorded.Goals as goal

pub loop-place-init : goal.loop-place-init
loop-place-init g c = record {
  reduction = reduction_begins g.F.Field.ORDER g.met.F.Field.prime g.O.MonoOrder.cmp g.met.O.MonoOrder.laws DEGREE_LIMIT (polys_of c.args.lines.now)
      c.args.poly.now c.in_ok-rest.rest c.new-parts.result c.len-length.ensures.ordered (c.len-length.ensures.ordered, omega (arith, c.len-length.ensures.value, c.len-length.ensures.fits)) c.in_ok-rest.ensures.cases c.new-parts.ensures;
  irreducible = λ j h i w d n lead divides. absurd (omega arith);
  table = c.requires.table;
  takes = takes_nothing c.args.meter.now;
  counted = counted_begins g.F.Field.ORDER g.O.MonoOrder.cmp (polys_of c.args.lines.now) c.args.poly.now c.in_ok-rest.rest c.args.meter.now c.in_ok-rest.ensures.cases;
}

pub loop-place-smaller-in_default : goal.loop-place-smaller-in_default
loop-place-smaller-in_default g c = omega (arith, c.loop-place-test.true, c.len.ensures.fits, c.len.ensures.value)

pub loop-place-preserved-in_default : goal.loop-place-preserved-in_default
loop-place-preserved-in_default g c =
    let p = g.F.Field.ORDER in
    let cmp = g.O.MonoOrder.cmp in
    let gs = polys_of c.args.lines.now in
    let rest : Terms = c.loop-place.rest in
    let place = c.loop-place.place in
    record {
      reduction = c.loop-place.invariant.reduction;
      irreducible = λ j h.
          elim (cases_eq j place) [
            | inl here ↦
                let m : Monomial = c.term-c.result.1.powers.now in
                let none : IsIrreducible p cmp gs m = subst (λ o. IfNone o (IsIrreducible p cmp gs m)) c.in_default.is c.in_ok-step.ensures.none in
                subst (λ x. IsIrreducible p cmp gs (get_or rest x (0, [])).1) (sym here) (subst (IsIrreducible p cmp gs) c.term-c.ensures.monomial none)
            | inr other ↦ c.loop-place.invariant.irreducible j (omega arith)
          ];
      table = c.loop-place.invariant.table;
      takes = c.loop-place.invariant.takes;
      counted = c.loop-place.invariant.counted;
    }

pub loop-place-smaller-in_ok-further-in-Ok : goal.loop-place-smaller-in_ok-further-in-Ok
loop-place-smaller-in_ok-further-in-Ok g c =
    omega (arith, c.in_ok-take.ensures.one_unit, c.in_ok-take.ensures.same_budget, c.in_ok-take.ensures.within, takes_no_less c.take.new.self c.go_on.new.meter c.go_on.ensures.takes, c.go_on.ensures.takes.same_budget)

pub loop-place-preserved-in_ok-further-in-Ok : goal.loop-place-preserved-in_ok-further-in-Ok
loop-place-preserved-in_ok-further-in-Ok g c =
    let p = g.F.Field.ORDER in
    let cmp = g.O.MonoOrder.cmp in
    let gs = polys_of c.args.lines.now in
    let poly : Terms = c.args.poly.now in
    let rest : Terms = c.loop-place.rest in
    let next : Terms = c.subtract.new.rest in
    let place = c.loop-place.place in
    let m : Monomial = c.term-c.result.1.powers.now in
    let reducible : IsIrreducible p cmp gs (get_or rest place (0, [])).1 → ⊥ =
    subst (λ x. IsIrreducible p cmp gs x → ⊥) c.term-c.ensures.monomial (subst (λ o. IfSome o (λ s. IsIrreducible p cmp gs m → ⊥)) c.in-Some.is c.in_ok-step.ensures.reducible) in
    let irreducible : AreIrreducible p cmp gs next place = λ j h. subst (λ t. IsIrreducible p cmp gs t.1) (c.in-Ok.ensures.first j h).1 (c.loop-place.invariant.irreducible j h) in
    let begun : IsUnderway p cmp gs poly next c.subtract.new.parts c.args.meter.now c.take.new.self =
    begins_underway p cmp gs poly next c.subtract.new.parts c.args.meter.now c.take.new.self (c.in-Ok.ensures.reduction poly c.loop-place.invariant.reduction)
    (counted_next cmp g.met.O.MonoOrder.laws p gs poly rest next place c.args.meter.now c.loop-place.meter c.take.new.self c.in-Ok.ensures.cancelled reducible irreducible c.in_ok-take.ensures.taken c.loop-place.invariant.counted) in
    let after : IsUnderway p cmp gs poly c.in_ok-further-in-Ok.further.0 c.go_on.new.parts c.args.meter.now c.go_on.new.meter = c.in_ok-further-in-Ok.ensures.continues poly c.args.meter.now begun in
    record {
      reduction = ends_underway p cmp gs poly c.in_ok-further-in-Ok.further.0 c.go_on.new.parts c.args.meter.now c.go_on.new.meter after
          (c.len-new_length.ensures.ordered, omega (arith, c.len-new_length.ensures.value, c.len-new_length.ensures.fits));
      irreducible = c.in_ok-further-in-Ok.ensures.irreducible;
      table = c.go_on.ensures.table;
      takes = takes_both c.args.meter.now c.take.new.self c.go_on.new.meter (takes_next c.args.meter.now c.loop-place.meter c.take.new.self c.loop-place.invariant.takes c.in_ok-take.ensures.taken) c.go_on.ensures.takes;
      counted = after.counted;
    }

pub loop-place-smaller : goal.loop-place-smaller
loop-place-smaller g c =
    omega (arith, c.in_ok-take.ensures.one_unit, c.in_ok-take.ensures.same_budget, c.in_ok-take.ensures.within, takes_no_less c.take.new.self c.go_on.new.meter c.go_on.ensures.takes, c.go_on.ensures.takes.same_budget)

pub loop-place-preserved : goal.loop-place-preserved
loop-place-preserved g c =
    let p = g.F.Field.ORDER in
    let cmp = g.O.MonoOrder.cmp in
    let gs = polys_of c.args.lines.now in
    let poly : Terms = c.args.poly.now in
    let rest : Terms = c.loop-place.rest in
    let next : Terms = c.subtract.new.rest in
    let place = c.loop-place.place in
    let m : Monomial = c.term-c.result.1.powers.now in
    let reducible : IsIrreducible p cmp gs (get_or rest place (0, [])).1 → ⊥ =
    subst (λ x. IsIrreducible p cmp gs x → ⊥) c.term-c.ensures.monomial (subst (λ o. IfSome o (λ s. IsIrreducible p cmp gs m → ⊥)) c.in-Some.is c.in_ok-step.ensures.reducible) in
    let irreducible : AreIrreducible p cmp gs next place = λ j h. subst (λ t. IsIrreducible p cmp gs t.1) (c.in-Ok.ensures.first j h).1 (c.loop-place.invariant.irreducible j h) in
    let begun : IsUnderway p cmp gs poly next c.subtract.new.parts c.args.meter.now c.take.new.self =
    begins_underway p cmp gs poly next c.subtract.new.parts c.args.meter.now c.take.new.self (c.in-Ok.ensures.reduction poly c.loop-place.invariant.reduction)
    (counted_next cmp g.met.O.MonoOrder.laws p gs poly rest next place c.args.meter.now c.loop-place.meter c.take.new.self c.in-Ok.ensures.cancelled reducible irreducible c.in_ok-take.ensures.taken c.loop-place.invariant.counted) in
    let after : IsUnderway p cmp gs poly c.in_ok-further-in-Ok.further.0 c.go_on.new.parts c.args.meter.now c.go_on.new.meter = c.in_ok-further-in-Ok.ensures.continues poly c.args.meter.now begun in
    record {
      reduction = ends_underway p cmp gs poly c.in_ok-further-in-Ok.further.0 c.go_on.new.parts c.args.meter.now c.go_on.new.meter after
          (c.len-new_length.ensures.ordered, omega (arith, c.len-new_length.ensures.value, c.len-new_length.ensures.fits));
      irreducible = c.in_ok-further-in-Ok.ensures.irreducible;
      table = c.go_on.ensures.table;
      takes = takes_both c.args.meter.now c.take.new.self c.go_on.new.meter (takes_next c.args.meter.now c.loop-place.meter c.take.new.self c.loop-place.invariant.takes c.in_ok-take.ensures.taken) c.go_on.ensures.takes;
      counted = after.counted;
    }

pub go_on-requires-clause-line : goal.go_on-requires-clause-line
go_on-requires-clause-line g c =
    let p = g.F.Field.ORDER in
    let cmp = g.O.MonoOrder.cmp in
    let gs = polys_of c.args.lines.now in
    let step = c.in-Some.step in
    let found : IsStep p cmp gs (g.F.Field.value c.term-c.result.0) c.term-c.result.1.powers.now step.line (g.F.Field.value step.coefficient) step.monomial =
    subst (λ o. IfSome o (λ s. IsStep p cmp gs (g.F.Field.value c.term-c.result.0) c.term-c.result.1.powers.now s.line (g.F.Field.value s.coefficient) s.monomial)) c.in-Some.is c.in_ok-step.ensures.some in
    omega (arith, found.within, length-polys c.args.lines.now)

pub go_on-requires-clause-irreducible : goal.go_on-requires-clause-irreducible
go_on-requires-clause-irreducible g c = λ j h.
    subst (λ t. IsIrreducible g.F.Field.ORDER g.O.MonoOrder.cmp (polys_of c.args.lines.now) t.1) (c.in-Ok.ensures.first j h).1 (c.loop-place.invariant.irreducible j h)

pub returns-in_err-further-in-Ok-clause-bound : goal.returns-in_err-further-in-Ok-clause-bound
returns-in_err-further-in-Ok-clause-bound g c =
    let p = g.F.Field.ORDER in
    let cmp = g.O.MonoOrder.cmp in
    let gs = polys_of c.args.lines.now in
    let poly : Terms = c.args.poly.now in
    let rest : Terms = c.loop-place.rest in
    let next : Terms = c.subtract.new.rest in
    let place = c.loop-place.place in
    let m : Monomial = c.term-c.result.1.powers.now in
    let reducible : IsIrreducible p cmp gs (get_or rest place (0, [])).1 → ⊥ =
    subst (λ x. IsIrreducible p cmp gs x → ⊥) c.term-c.ensures.monomial (subst (λ o. IfSome o (λ s. IsIrreducible p cmp gs m → ⊥)) c.in-Some.is c.in_ok-step.ensures.reducible) in
    let irreducible : AreIrreducible p cmp gs next place = λ j h. subst (λ t. IsIrreducible p cmp gs t.1) (c.in-Ok.ensures.first j h).1 (c.loop-place.invariant.irreducible j h) in
    let begun : IsUnderway p cmp gs poly next c.subtract.new.parts c.args.meter.now c.take.new.self =
    begins_underway p cmp gs poly next c.subtract.new.parts c.args.meter.now c.take.new.self (c.in-Ok.ensures.reduction poly c.loop-place.invariant.reduction)
    (counted_next cmp g.met.O.MonoOrder.laws p gs poly rest next place c.args.meter.now c.loop-place.meter c.take.new.self c.in-Ok.ensures.cancelled reducible irreducible c.in_ok-take.ensures.taken c.loop-place.invariant.counted) in
    c.in_err-further-in-Ok.ensures.bound poly c.args.meter.now (takes_next c.args.meter.now c.loop-place.meter c.take.new.self c.loop-place.invariant.takes c.in_ok-take.ensures.taken) begun

pub returns-clause-reduction : goal.returns-clause-reduction
returns-clause-reduction g c = c.loop-place.invariant.reduction

pub returns-in-Err-clause-reduction : goal.returns-in-Err-clause-reduction
returns-in-Err-clause-reduction g c =
    let p = g.F.Field.ORDER in
    let cmp = g.O.MonoOrder.cmp in
    let gs = polys_of c.args.lines.now in
    let poly : Terms = c.args.poly.now in
    let rest : Terms = c.loop-place.rest in
    subst (λ (ts : Terms). IsRecordedReduction p cmp gs poly ts c.subtract.new.parts) (sym c.in-Err.ensures.unchanged.0)
    (subst (λ (ps : Parts). IsRecordedReduction p cmp gs poly rest ps) (sym c.in-Err.ensures.unchanged.1) c.loop-place.invariant.reduction)

pub returns-clause-reduced : goal.returns-clause-reduced
returns-clause-reduced g c =
    reduced_from_terms g.F.Field.ORDER g.O.MonoOrder.cmp (polys_of c.args.lines.now) c.loop-place.rest c.loop-place.place
    (omega (arith, c.loop-place-test.false, c.len.ensures.value)) c.loop-place.invariant.irreducible

pub returns-in-Err-clause-over : goal.returns-in-Err-clause-over
returns-in-Err-clause-over g c =
    let p = g.F.Field.ORDER in
    let value = g.F.Field.value in
    let cmp = g.O.MonoOrder.cmp in
    let gs = polys_of c.args.lines.now in
    let rest : Terms = c.loop-place.rest in
    let place = c.loop-place.place in
    let step = c.in-Some.step in
    let found : IsStep p cmp gs (value c.term-c.result.0) c.term-c.result.1.powers.now step.line (value step.coefficient) step.monomial =
    subst (λ o. IfSome o (λ s. IsStep p cmp gs (value c.term-c.result.0) c.term-c.result.1.powers.now s.line (value s.coefficient) s.monomial)) c.in-Some.is c.in_ok-step.ensures.some in
    let here : IsStep p cmp gs (get_or rest place (0, [])).0 (get_or rest place (0, [])).1 step.line (value step.coefficient) step.monomial =
    subst (λ x. IsStep p cmp gs x (get_or rest place (0, [])).1 step.line (value step.coefficient) step.monomial) c.term-c.ensures.coefficient
    (subst (λ m. IsStep p cmp gs (value c.term-c.result.0) m step.line (value step.coefficient) step.monomial) c.term-c.ensures.monomial found) in
    subst (λ r. IsStopped p cmp gs r c.subtract.new.parts step.line step.monomial) (sym c.in-Err.ensures.unchanged.0)
    (subst (λ ps. IsStopped p cmp gs rest ps step.line step.monomial) (sym c.in-Err.ensures.unchanged.1)
    (stopped p g.met.F.Field.prime cmp g.met.O.MonoOrder.laws DEGREE_LIMIT gs rest c.loop-place.parts place step.line (value step.coefficient) step.monomial
    c.len.ensures.ordered (omega (arith, c.loop-place-test.true, c.len.ensures.value)) here (c.in-Err.ensures.over c.in_ok-past_limit-in-Err.ensures)))

pub returns-in_err-step-clause-bound : goal.returns-in_err-step-clause-bound
returns-in_err-step-clause-bound g c =
    counted_is_bounded g.F.Field.ORDER g.O.MonoOrder.cmp (polys_of c.args.lines.now) c.args.poly.now c.loop-place.rest c.args.meter.now c.loop-place.meter c.loop-place.meter refl c.loop-place.invariant.takes c.loop-place.invariant.counted

pub returns-in_err-take-clause-bound : goal.returns-in_err-take-clause-bound
returns-in_err-take-clause-bound g c =
    counted_is_bounded g.F.Field.ORDER g.O.MonoOrder.cmp (polys_of c.args.lines.now) c.args.poly.now c.loop-place.rest c.args.meter.now c.loop-place.meter c.take.new.self c.in_err-take.ensures.kept c.loop-place.invariant.takes c.loop-place.invariant.counted

pub returns-in_err-past_limit-in-Err-clause-bound : goal.returns-in_err-past_limit-in-Err-clause-bound
returns-in_err-past_limit-in-Err-clause-bound g c =
    attempt_at g.F.Field.ORDER g.met.F.Field.prime g.O.MonoOrder.cmp g.met.O.MonoOrder.laws DEGREE_LIMIT (polys_of c.args.lines.now) c.args.poly.now c.loop-place.rest c.loop-place.place c.args.meter.now c.loop-place.meter c.take.new.self
    c.len.ensures.ordered (omega (arith, c.loop-place-test.true, c.len.ensures.value)) (subst (λ x. IsIrreducible g.F.Field.ORDER g.O.MonoOrder.cmp (polys_of c.args.lines.now) x → ⊥) c.term-c.ensures.monomial (subst (λ o. IfSome o (λ s. IsIrreducible g.F.Field.ORDER g.O.MonoOrder.cmp (polys_of c.args.lines.now) c.term-c.result.1.powers.now → ⊥)) c.in-Some.is c.in_ok-step.ensures.reducible))
    c.in_ok-take.ensures.taken c.loop-place.invariant.takes c.loop-place.invariant.counted

pub returns-in-Err-clause-bound : goal.returns-in-Err-clause-bound
returns-in-Err-clause-bound g c =
    attempt_at g.F.Field.ORDER g.met.F.Field.prime g.O.MonoOrder.cmp g.met.O.MonoOrder.laws DEGREE_LIMIT (polys_of c.args.lines.now) c.args.poly.now c.loop-place.rest c.loop-place.place c.args.meter.now c.loop-place.meter c.take.new.self
    c.len.ensures.ordered (omega (arith, c.loop-place-test.true, c.len.ensures.value)) (subst (λ x. IsIrreducible g.F.Field.ORDER g.O.MonoOrder.cmp (polys_of c.args.lines.now) x → ⊥) c.term-c.ensures.monomial (subst (λ o. IfSome o (λ s. IsIrreducible g.F.Field.ORDER g.O.MonoOrder.cmp (polys_of c.args.lines.now) c.term-c.result.1.powers.now → ⊥)) c.in-Some.is c.in_ok-step.ensures.reducible))
    c.in_ok-take.ensures.taken c.loop-place.invariant.takes c.loop-place.invariant.counted

pub returns-clause-bound : goal.returns-clause-bound
returns-clause-bound g c =
    counted_is_bounded g.F.Field.ORDER g.O.MonoOrder.cmp (polys_of c.args.lines.now) c.args.poly.now c.loop-place.rest c.args.meter.now c.loop-place.meter c.loop-place.meter refl c.loop-place.invariant.takes c.loop-place.invariant.counted
