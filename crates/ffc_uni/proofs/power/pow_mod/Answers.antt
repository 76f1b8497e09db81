use Rattle.std.proofs.Common.{◌≡◌, ◌+◌, ◌-◌, ◌*◌, ◌/◌, ◌%◌, ◌^◌, ◌<◌, ◌==◌, suc, refl, sym, subst, arith}
use Rattle.std.proofs.Math.Nat.{div-eq_of_lt}
use Rattle.ffc_uni.specs.Univariate.{IsRemainder, raised}
use Rattle.ffc_uni.proofs.PowerLemmas.{power_step, power_waits}
use Rattle.ffc_uni.proofs.Products.{remainder_itself}
use Rattle.ffc_uni.proofs.UnitLemmas.{at_most_later, at_most_more, at_most_total, chained-none}
use Rattle.ffc_uni.proofs.power.pow_mod.Goals as goal

pub loop-place-init : goal.loop-place-init
loop-place-init g c =
    let p = g.F.Field.ORDER in
    let f = c.args.f.now in
    let power = c.in_ok-power.power in
    let none : c.args.exponent / 2 ^ 64 ≡ 0 = div-eq_of_lt (omega arith) in
    record {
      power = subst (λ n. IsRemainder p f (raised c.args.base.now n) power) (sym none) (remainder_itself p f (raised c.args.base.now 0) power c.in_ok-power.ensures.same);
      lower = omega (arith, c.in_ok-power.ensures.short, c.requires);
      units = (0, omega arith, chained-none c.args.meter.now);
      taken = λ some. absurd (omega arith);
      within = λ some. absurd (omega arith);
    }

pub returns-in_err-power-2-clause-units : goal.returns-in_err-power-2-clause-units
returns-in_err-power-2-clause-units g c =
    let place = c.loop-place.place in
    at_most_more (2 * (64 - place) + 2) 128 c.args.meter.now c.next_power.new.meter (omega arith)
    (at_most_later (2 * (64 - place)) 2 c.args.meter.now c.loop-place.meter c.next_power.new.meter c.loop-place.invariant.units c.next_power.ensures.units)

pub loop-place-preserved-then-front-gt0 : goal.loop-place-preserved-then-front-gt0
loop-place-preserved-then-front-gt0 g c =
    let p = g.F.Field.ORDER in
    let f = c.args.f.now in
    let e = c.args.exponent in
    let i = c.loop-place.place - 1 in
    let next : suc i ≡ c.loop-place.place = omega arith in
    let so_far : IsRemainder p f (raised c.args.base.now (e / 2 ^ suc i)) c.loop-place.power =
    subst (λ n. IsRemainder p f (raised c.args.base.now (e / 2 ^ n)) c.loop-place.power) (sym next) c.loop-place.invariant.power in
    record {
      power = power_step p f c.args.base.now c.loop-place.power c.in_ok-power-2.power e i (e / 2 ^ i % 2 == 1) so_far refl c.in_ok-power-2.ensures.power;
      lower = c.in_ok-power-2.ensures.lower;
      units = at_most_more (2 * (64 - c.loop-place.place) + 2) (2 * (64 - i)) c.args.meter.now c.next_power.new.meter (omega arith)
          (at_most_later (2 * (64 - c.loop-place.place)) 2 c.args.meter.now c.loop-place.meter c.next_power.new.meter c.loop-place.invariant.units c.next_power.ensures.units);
      taken = λ some. omega (arith, c.in_ok-power-2.ensures.taken, at_most_total (2 * (64 - c.loop-place.place)) c.args.meter.now c.loop-place.meter c.loop-place.invariant.units);
      within = λ _. c.in_ok-power-2.ensures.within;
    }

pub loop-place-preserved : goal.loop-place-preserved
loop-place-preserved g c =
    let p = g.F.Field.ORDER in
    let f = c.args.f.now in
    let e = c.args.exponent in
    let i = c.loop-place.place - 1 in
    let next : suc i ≡ c.loop-place.place = omega arith in
    let so_far : IsRemainder p f (raised c.args.base.now (e / 2 ^ suc i)) c.loop-place.power =
    subst (λ n. IsRemainder p f (raised c.args.base.now (e / 2 ^ n)) c.loop-place.power) (sym next) c.loop-place.invariant.power in
    record {
      power = power_waits p f c.args.base.now c.loop-place.power e i so_far (omega (arith, c.if-front-gt0.false));
      lower = c.loop-place.invariant.lower;
      units = at_most_more (2 * (64 - c.loop-place.place)) (2 * (64 - i)) c.args.meter.now c.loop-place.meter (omega arith) c.loop-place.invariant.units;
      taken = λ some. absurd (omega (arith, c.if-front-gt0.false));
      within = λ some. absurd (omega (arith, c.if-front-gt0.false));
    }

pub returns-clause-taken : goal.returns-clause-taken
returns-clause-taken g c = λ some.
    let none : c.loop-place.place ≡ 0 = omega (arith, c.loop-place-test.false) in
    let whole : 0 < c.args.exponent / 2 ^ 0 = omega arith in
    c.loop-place.invariant.taken (subst (λ n. 0 < c.args.exponent / 2 ^ n) (sym none) whole)

pub returns-clause-within : goal.returns-clause-within
returns-clause-within g c = λ some.
    let none : c.loop-place.place ≡ 0 = omega (arith, c.loop-place-test.false) in
    let whole : 0 < c.args.exponent / 2 ^ 0 = omega arith in
    c.loop-place.invariant.within (subst (λ n. 0 < c.args.exponent / 2 ^ n) (sym none) whole)
