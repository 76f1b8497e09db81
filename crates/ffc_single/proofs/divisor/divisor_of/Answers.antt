use Rattle.std.proofs.Common.{◌≡◌, ◌+◌, ◌*◌, ◌<◌, ◌≤◌, length, refl, sym, ◌∙◌, subst, arith}
use Rattle.std.proofs.lemmas.Option.{get_or_from_slice_get, slice_get_within}
use Rattle.ffc_base.specs.declared.stop.Stop.TheVariants.{Spent}
use Rattle.ffc_linear.proofs.UnitLemmas.{IsTakenWithin, taken_within, within_freely, within_next}
use Rattle.ffc_roots.proofs.Cases.{part_was_spent}
use Rattle.ffc_single.specs.declared.divisor.Divisor.{Divisor}
use Rattle.ffc_single.specs.Dividing.{IsDivisorOf, IsFirstNonzero}
use Rattle.ffc_single.proofs.DividingLemmas.{divisor_start}
use Rattle.ffc_single.proofs.EuclidLemmas.{nonempty}
use Rattle.ffc_single.proofs.UnitLemmas.{stopped_in_turn, none_taken}
use Rattle.ffc_single.proofs.divisor.divisor_of.Goals as goal

pub loop-place-init : goal.loop-place-init
loop-place-init g c =
    let p = g.F.Field.ORDER in
    let forms = c.args.forms.now in
    let start = c.in-Some.start in
    let first : IsFirstNonzero forms start = c.in-Some.ensures.some in
    let value_is : c.in_ok-value.value ≡ first.first = c.in_ok-value.ensures.cases ∙ c.index-forms-start.is ∙ get_or_from_slice_get forms start first.first c.index-forms-start.result first.at in
    let begun : Divisor g.row.F.Denot = record { start = start; steps = c.new.result; value = c.in_ok-value.value } in
    record {
      divisor = divisor_start {F = g.row.F.Denot} p forms start first.first begun first first.at refl c.new.ensures.items value_is c.coefs-coefficients.ensures.normal (nonempty c.in_ok-value.value (λ none. first.some (sym value_is ∙ none)));
      units = λ n low. none_taken ((start + 1) * (n + n * n)) c.args.meter.now;
      takes = record { same_budget = refl; taken = omega arith };
    }

pub returns-in_err-meet-clause-units : goal.returns-in_err-meet-clause-units
returns-in_err-meet-clause-units g c = λ n low.
    stopped_in_turn c.loop-place.place (n + n * n) (length c.args.forms.now) _ c.from_residual-in_err-meet.result c.args.meter.now c.loop-place.meter c.meet.new.meter c.loop-place-test.true
    (part_was_spent _ _ c.from_residual-in_err-meet.result c.in_err-meet.field-0.0 c.from_residual-in_err-meet.ensures.1) (c.loop-place.invariant.units n low) (c.in_err-meet.ensures.units n low)

pub loop-place-preserved : goal.loop-place-preserved
loop-place-preserved g c = record {
  divisor = c.in_ok-meet.ensures.divisor;
  units = λ n low.
      within_next c.loop-place.place (n + n * n) c.args.meter.now c.loop-place.meter c.meet.new.meter (c.loop-place.invariant.units n low)
      (taken_within (n + n * n) Spent c.meet.result c.loop-place.meter c.meet.new.meter (c.meet.ensures.units n low));
  takes = record {
    same_budget = c.meet.ensures.takes.same_budget ∙ c.loop-place.invariant.takes.same_budget;
    taken = omega (arith, c.meet.ensures.takes.taken, c.loop-place.invariant.takes.taken);
  };
}

pub returns-clause-some : goal.returns-clause-some
returns-clause-some g c =
    let forms = c.args.forms.now in
    let first : IsFirstNonzero forms c.in-Some.start = c.in-Some.ensures.some in
    let inside : c.in-Some.start < length forms = slice_get_within forms c.in-Some.start first.first first.at in
    let end : c.loop-place.place ≤ length forms = c.loop-place.auto.place-end (omega arith) in
    let past : length forms ≤ c.loop-place.place = c.loop-place-test.false in
    let all : c.loop-place.place ≡ length forms = omega arith in
    subst (λ k. IsDivisorOf {F = g.row.F.Denot} g.F.Field.ORDER forms k c.loop-place.divisor) all c.loop-place.invariant.divisor

pub returns-clause-units : goal.returns-clause-units
returns-clause-units g c = λ n low.
    (let forms = c.args.forms.now in
    let first : IsFirstNonzero forms c.in-Some.start = c.in-Some.ensures.some in
    let inside : c.in-Some.start < length forms = slice_get_within forms c.in-Some.start first.first first.at in
    let end : c.loop-place.place ≤ length forms = c.loop-place.auto.place-end (omega arith) in
    let past : length forms ≤ c.loop-place.place = c.loop-place-test.false in
    let all : c.loop-place.place ≡ length forms = omega arith in
    within_freely (length forms * (n + n * n)) Spent _ c.args.meter.now c.loop-place.meter (λ e. absurd cc)
    (subst (λ k. IsTakenWithin (k * (n + n * n)) c.args.meter.now c.loop-place.meter) all (c.loop-place.invariant.units n low)))
