use Rattle.std.proofs.Common.{◌+◌, ◌*◌, length, Ok, refl, ap, ◌∙◌, subst}
use Rattle.std.specs.Prelude.{IfSome}
use Rattle.std.proofs.lemmas.Option.{slice_get_read}
use Rattle.ffc_linear.proofs.UnitLemmas.{memory_not_spent}
use Rattle.ffc_roots.proofs.Cases.{part_was_spent}
use Rattle.ffc_uni.specs.Univariate.{Coefficients}
use Rattle.ffc_lemmatree.specs.declared.endings.EuclidStep.{EuclidStep}
use Rattle.ffc_single.specs.declared.divisor.Divisor.{Divisor}
use Rattle.ffc_single.specs.Euclid.{IsNextDivisor}
use Rattle.ffc_single.proofs.DividingLemmas.{divisor_stays, divisor_goes_on, step_units}
use Rattle.ffc_single.proofs.UnitLemmas.{within_more}
use Rattle.ffc_single.proofs.divisor.Divisor.meet.Goals as goal

pub returns-in_err-next-clause-units : goal.returns-in_err-next-clause-units
returns-in_err-next-clause-units g c = λ n low.
    (let forms = c.args.forms.now in
    let f : Coefficients = c.index-forms-place.result in
    let at = slice_get_read forms (length forms) c.args.place f refl c.requires.inside c.index-forms-place.is in
    within_more _ (n + n * n) _ c.from_residual.result c.args.meter.now c.common_divisor.new.meter (step_units g.F.Field.ORDER forms c.args.place n f c.args.self.now low c.requires.divisor at)
    (part_was_spent _ _ c.from_residual.result c.in_err-next.field-0.0 c.from_residual.ensures.1) c.in_err-next.ensures.units)

pub returns-in_default-clause-divisor : goal.returns-in_default-clause-divisor
returns-in_default-clause-divisor g c =
    let forms = c.args.forms.now in
    let f : Coefficients = c.index-forms-place.result in
    let at = slice_get_read forms (length forms) c.args.place f refl c.requires.inside c.index-forms-place.is in
    divisor_stays g.F.Field.ORDER forms c.args.place f c.args.self.now c.requires.divisor at (c.common_divisor.ensures.none (c.in_ok-next.was ∙ ap Ok c.in_default.is))

pub returns-in_default-clause-units : goal.returns-in_default-clause-units
returns-in_default-clause-units g c = λ n low.
    (let forms = c.args.forms.now in
    let f : Coefficients = c.index-forms-place.result in
    let at = slice_get_read forms (length forms) c.args.place f refl c.requires.inside c.index-forms-place.is in
    within_more _ (n + n * n) _ _ c.args.meter.now c.common_divisor.new.meter (step_units g.F.Field.ORDER forms c.args.place n f c.args.self.now low c.requires.divisor at)
    (λ e. absurd cc) c.in_ok-next.ensures.units)

pub returns-in_err-push-clause-units : goal.returns-in_err-push-clause-units
returns-in_err-push-clause-units g c = λ n low.
    (let forms = c.args.forms.now in
    let f : Coefficients = c.index-forms-place.result in
    let at = slice_get_read forms (length forms) c.args.place f refl c.requires.inside c.index-forms-place.is in
    within_more _ (n + n * n) _ c.from_residual-in_err-push.result c.args.meter.now c.common_divisor.new.meter (step_units g.F.Field.ORDER forms c.args.place n f c.args.self.now low c.requires.divisor at)
    (λ e. absurd (memory_not_spent c.from_residual-in_err-push.result c.from_residual-in_err-push.ensures.1 e)) c.in_ok-next.ensures.units)

pub returns-clause-divisor : goal.returns-clause-divisor
returns-clause-divisor g c =
    let p = g.F.Field.ORDER in
    let forms = c.args.forms.now in
    let f : Coefficients = c.index-forms-place.result in
    let at = slice_get_read forms (length forms) c.args.place f refl c.requires.inside c.index-forms-place.is in
    let found : IsNextDivisor {F = g.row.F.Denot} p c.args.self.now.value f c.in-Some.next = subst (λ o. IfSome o (IsNextDivisor {F = g.row.F.Denot} p c.args.self.now.value f)) c.in-Some.is c.in_ok-next.ensures.some in
    let new : Divisor g.row.F.Denot = record { start = c.args.self.now.start; steps = c.push.new.self; value = c.in-Some.next.value } in
    let step : EuclidStep g.row.F.Denot = record { equation = c.args.place; a = c.in-Some.next.a; b = c.in-Some.next.b } in
    divisor_goes_on p forms c.args.place f c.args.self.now new step c.in-Some.next c.requires.low c.requires.divisor at found refl refl refl refl c.in_ok-push.ensures.items refl

pub returns-clause-units : goal.returns-clause-units
returns-clause-units g c = λ n low.
    (let forms = c.args.forms.now in
    let f : Coefficients = c.index-forms-place.result in
    let at = slice_get_read forms (length forms) c.args.place f refl c.requires.inside c.index-forms-place.is in
    within_more _ (n + n * n) _ _ c.args.meter.now c.common_divisor.new.meter (step_units g.F.Field.ORDER forms c.args.place n f c.args.self.now low c.requires.divisor at)
    (λ e. absurd cc) c.in_ok-next.ensures.units)
