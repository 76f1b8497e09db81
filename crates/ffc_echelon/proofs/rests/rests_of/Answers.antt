use Rattle.std.proofs.Common.{◌≡◌, ◌+◌, ◌*◌, ◌++◌, ◌∷◌, [], List, Some, add-one, length, take, refl, sym, subst}
use Rattle.std.specs.Prelude.{slice_get}
use Rattle.std.proofs.lemmas.Option.{slice_get_read}
use Rattle.ffc_base.specs.declared.stop.Stop.TheVariants.{Spent}
use Rattle.ffc_echelon.specs.Vectors.{Coordinates}
use Rattle.ffc_echelon.specs.Resting.{IsRestFor}
use Rattle.ffc_echelon.specs.Rests.{AreRests}
use Rattle.ffc_echelon.proofs.RestLemmas.{rests_more}
use Rattle.ffc_echelon.proofs.StepLemmas.{memory_not_spent, taken_within, within_freely, within_next, within_turn}
use Rattle.ffc_echelon.proofs.rests.rests_of.Goals as goal

pub returns-in_err-push-in-Apart-clause-units : goal.returns-in_err-push-in-Apart-clause-units
returns-in_err-push-in-Apart-clause-units g c =
    let n = length c.args.vectors.now in
    let m = c.args.form.now.unknowns in
    within_freely (n * m) Spent c.from_residual-in_err-push-in-Apart.result c.args.meter.now c.rest_of.new.meter
    (memory_not_spent c.from_residual-in_err-push-in-Apart.result c.from_residual-in_err-push-in-Apart.ensures.1)
    (within_turn c.loop-place.place m n c.args.meter.now c.loop-place.meter c.rest_of.new.meter c.loop-place-test.true c.loop-place.invariant.units
    (taken_within m Spent c.rest_of.result c.loop-place.meter c.rest_of.new.meter c.rest_of.ensures.units))

pub returns-in-Combined-clause-rests : goal.returns-in-Combined-clause-rests
returns-in-Combined-clause-rests g c =
    let vectors = c.args.vectors.now in
    let vector : Coordinates = c.index-vectors-place.result in
    record {
      vector = vector;
      at = slice_get_read vectors (length vectors) c.loop-place.place vector refl c.loop-place-test.true c.index-vectors-place.is;
      combination = subst (IsRestFor g.F.Field.ORDER g.F.Field.value c.args.form.now vector) c.in-Combined.is c.in_ok-rest.ensures.rest;
    }

pub loop-place-preserved : goal.loop-place-preserved
loop-place-preserved g c =
    let p = g.F.Field.ORDER in
    let form = c.args.form.now in
    let vectors = c.args.vectors.now in
    let vector : Coordinates = c.index-vectors-place.result in
    let rest : Coordinates = c.in-Apart.rest in
    let place = c.loop-place.place in
    let at : slice_get vectors place ≡ Some vector = slice_get_read vectors (length vectors) place vector refl c.loop-place-test.true c.index-vectors-place.is in
    let here = subst (IsRestFor p g.F.Field.value form vector) c.in-Apart.is c.in_ok-rest.ensures.rest in
    record {
      rests = subst (λ (l : List Coordinates). AreRests p form (take (place + 1) vectors) l) (sym c.in_ok-push-in-Apart.ensures.items)
          (subst (λ k. AreRests p form (take k vectors) (c.loop-place.rests.items ++ rest ∷ [])) (sym (add-one place))
          (rests_more p form vectors c.loop-place.rests.items place vector rest at c.loop-place.invariant.rests here));
      units = within_next place form.unknowns c.args.meter.now c.loop-place.meter c.rest_of.new.meter c.loop-place.invariant.units
          (taken_within form.unknowns Spent c.rest_of.result c.loop-place.meter c.rest_of.new.meter c.rest_of.ensures.units);
    }
