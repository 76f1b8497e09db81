use Rattle.std.proofs.Common.{◌≡◌, [], length, All, refl, subst, take_all}
use Rattle.std.proofs.lemmas.Option.{slice_get_read}
use Rattle.ffc_uni.specs.Univariate.{Coefficients}
use Rattle.ffc_single.proofs.DividingLemmas.{empty_more}
use Rattle.ffc_single.proofs.divisor.first_nonzero.Goals as goal

pub loop-place-preserved : goal.loop-place-preserved
loop-place-preserved g c =
    let forms = c.args.forms.now in
    let place = c.loop-place.place in
    let f : Coefficients = c.index-forms-place.result in
    let at = slice_get_read forms (length forms) place f refl c.loop-place-test.true c.index-forms-place.is in
    empty_more forms place f at c.loop-place.invariant (c.is_zero.ensures.0 c.if-not-is_zero.false)

pub returns-clause-none : goal.returns-clause-none
returns-clause-none g c = λ _.
    subst (All (λ (f : Coefficients). f ≡ [])) (take_all c.loop-place.place c.args.forms.now c.loop-place-test.false) c.loop-place.invariant
