use Rattle.std.proofs.Common.{◌+◌, ◌*◌, List, All, length, sym, subst, ap, arith}
use Rattle.std.proofs.lemmas.Result.{IfOk-weaker}
use Rattle.ffc_base.specs.declared.stop.Stop.TheVariants.{Spent}
use Rattle.ffc_echelon.specs.Vectors.{Coordinates, AreCoordinates, IsBelow}
use Rattle.ffc_echelon.specs.Forms.{IsAvoided, IsFormOf}
use Rattle.ffc_echelon.specs.Resting.{IsRestsOf}
use Rattle.ffc_echelon.specs.Rests.{AreRests}
use Rattle.ffc_echelon.specs.Solving.{IsPlacedBy, IsSolvedBy}
use Rattle.ffc_echelon.proofs.RestLemmas.{length_rests, avoided_rests}
use Rattle.ffc_echelon.proofs.SolvingLemmas.{placed_solves}
use Rattle.ffc_echelon.proofs.StepLemmas.{taken_within, within_last}
use Rattle.ffc_echelon.proofs.solving.placed.Goals as goal

pub valued-requires-clause-rests : goal.valued-requires-clause-rests
valued-requires-clause-rests g c =
    let p = g.F.Field.ORDER in
    let form = c.args.form.now in
    subst (All (IsAvoided form)) (sym c.as_slice.ensures.value)
    (avoided_rests p form c.args.unequal.now c.in-Apart.rests.items (subst (IsRestsOf p g.F.Field.value form c.args.unequal.now) c.in-Apart.is c.in_ok-place.ensures.rests))

pub valued-requires-clause-enough : goal.valued-requires-clause-enough
valued-requires-clause-enough g c =
    let p = g.F.Field.ORDER in
    let form = c.args.form.now in
    omega (arith, c.requires.enough, ap length c.as_slice.ensures.value, length_rests p form c.args.unequal.now c.in-Apart.rests.items (subst (IsRestsOf p g.F.Field.value form c.args.unequal.now) c.in-Apart.is c.in_ok-place.ensures.rests))

pub returns-in-Combined-clause-found : goal.returns-in-Combined-clause-found
returns-in-Combined-clause-found g c = λ equal of valid below.
    (let p = g.F.Field.ORDER in
    let combined = subst (IsRestsOf p g.F.Field.value c.args.form.now c.args.unequal.now) c.in-Combined.is c.in_ok-place.ensures.rests in
    record { vector = combined.vector; at = combined.at; combination = combined.combination equal of })

pub returns-in-Apart-clause-found : goal.returns-in-Apart-clause-found
returns-in-Apart-clause-found g c =
    let p = g.F.Field.ORDER in
    let value = g.F.Field.value in
    let form = c.args.form.now in
    let unequal = c.args.unequal.now in
    let rests : List Coordinates = c.as_slice.result.now in
    let are : AreRests p form unequal rests = subst (λ (rs : List Coordinates). AreRests p form unequal rs) (sym c.as_slice.ensures.value) (subst (IsRestsOf p value form unequal) c.in-Apart.is c.in_ok-place.ensures.rests) in
    IfOk-weaker c.valued.result (IsPlacedBy p value form rests)
    (λ s. (equal : List Coordinates) → IsFormOf p form.unknowns equal form → All (AreCoordinates p) equal → All (IsBelow (form.unknowns + 1)) equal → IsSolvedBy p value form.unknowns equal unequal s)
    (λ s h. placed_solves p value form unequal rests s are c.requires.valid c.requires.unequal h) c.valued.ensures.found

pub returns-in-Apart-clause-units : goal.returns-in-Apart-clause-units
returns-in-Apart-clause-units g c =
    let p = g.F.Field.ORDER in
    let form = c.args.form.now in
    let unequal = c.args.unequal.now in
    let d = length unequal in
    let n = form.unknowns in
    let rests : List Coordinates = c.as_slice.result.now in
    let are : AreRests p form unequal rests = subst (λ (rs : List Coordinates). AreRests p form unequal rs) (sym c.as_slice.ensures.value) (subst (IsRestsOf p g.F.Field.value form unequal) c.in-Apart.is c.in_ok-place.ensures.rests) in
    within_last (d * n) (n * (length rests + 1)) (d * n + n * (d + 1)) Spent c.valued.result c.valued.result c.args.meter.now c.rests_of.new.meter c.valued.new.meter
    (omega (arith, ap (λ k. n * (k + 1)) (length_rests p form unequal rests are))) (λ e. e)
    (taken_within (d * n) Spent c.rests_of.result c.args.meter.now c.rests_of.new.meter c.rests_of.ensures.units) c.valued.ensures.units
