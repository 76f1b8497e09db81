use Rattle.std.proofs.Common.{ℕ, ◌+◌, ◌*◌, ◌%◌, ◌<◌, inl, inr, sym, ap, ◌∙◌, subst, arith, mod-eq_of_lt}
use Rattle.std.specs.Prelude.{IfNone}
use Rattle.std.proofs.lemmas.Bool.{cases_eq}
use Rattle.ffc_base.specs.Metering.{Spending}
use Rattle.ffc_uni.specs.Units.{IsAtMost}
use Rattle.ffc_uni.proofs.UnitLemmas.{at_most_later, at_most_more}
use Rattle.ffc_roots.specs.Separation.{SeparatesNone}
use Rattle.ffc_roots.proofs.Bounds.{at_most_chained}
use Rattle.ffc_roots.proofs.FieldPolynomial.{two_roots}
use Rattle.ffc_roots.proofs.Tries.{one_is_left, not_all_fail}
use Rattle.ffc_roots.proofs.split.part.Goals as goal

-- one turn more
one_more : (n bound : ℕ) (a b c : Spending) → n < bound → IsAtMost (128 * n) a b → IsAtMost 128 b c → IsAtMost (128 * bound) a c
one_more n bound a b c left before turn = at_most_more (128 * n + 128) (128 * bound) a c (omega arith) (at_most_later (128 * n) 128 a b c before turn)

pub loop-n-preserved : goal.loop-n-preserved
loop-n-preserved g c =
    let p = g.F.Field.ORDER in
    let n = c.loop-n.n in
    let known = c.loop-n.invariant in
    let fails = SeparatesNone p c.args.f.now (g.F.Field.value c.of.result) in
    let this : fails = subst (λ o. IfNone o fails) c.in_default.is c.in_ok-parts.ensures.none in
    record {
      tried = λ k below. elim (cases_eq k n) [
        | inl here ↦ subst (SeparatesNone p c.args.f.now) (c.of.ensures ∙ ap (λ m. m % p) c.from.ensures ∙ mod-eq_of_lt (omega arith) ∙ sym here) this
        | inr before ↦ known.tried k (omega arith)
      ];
      units = one_more n (n + 1) c.args.meter.now c.loop-n.meter c.part_by.new.meter (omega arith) known.units c.part_by.ensures.units;
    }

pub returns-in_err-parts-clause-units : goal.returns-in_err-parts-clause-units
returns-in_err-parts-clause-units g c = λ bound separated.
    let p = g.F.Field.ORDER in
    let known = c.loop-n.invariant in
    let two = two_roots p c.args.f.now g.met.F.Field.prime c.requires.normal c.requires.long c.requires.divides in
    one_more c.loop-n.n bound c.args.meter.now c.loop-n.meter c.part_by.new.meter (one_is_left p c.loop-n.n bound c.args.f.now two known.tried separated) known.units c.part_by.ensures.units

pub returns-in-Some-clause-units : goal.returns-in-Some-clause-units
returns-in-Some-clause-units g c = λ bound separated.
    let p = g.F.Field.ORDER in
    let known = c.loop-n.invariant in
    let two = two_roots p c.args.f.now g.met.F.Field.prime c.requires.normal c.requires.long c.requires.divides in
    one_more c.loop-n.n bound c.args.meter.now c.loop-n.meter c.part_by.new.meter (one_is_left p c.loop-n.n bound c.args.f.now two known.tried separated) known.units c.part_by.ensures.units

pub returns-in_err-parts-clause-chained : goal.returns-in_err-parts-clause-chained
returns-in_err-parts-clause-chained g c =
    at_most_chained _ c.args.meter.now c.part_by.new.meter (at_most_later _ 128 c.args.meter.now c.loop-n.meter c.part_by.new.meter c.loop-n.invariant.units c.part_by.ensures.units)

pub returns-in-Some-clause-chained : goal.returns-in-Some-clause-chained
returns-in-Some-clause-chained g c =
    at_most_chained _ c.args.meter.now c.part_by.new.meter (at_most_later _ 128 c.args.meter.now c.loop-n.meter c.part_by.new.meter c.loop-n.invariant.units c.part_by.ensures.units)

pub unreachable-requires : goal.unreachable-requires
unreachable-requires g c =
    let p = g.F.Field.ORDER in
    let two = two_roots p c.args.f.now g.met.F.Field.prime c.requires.normal c.requires.long c.requires.divides in
    not_all_fail p c.args.f.now two (λ k below. c.loop-n.invariant.tried k (omega (arith, c.loop-n-test.false, c.ORDER-n-end.ensures)))
