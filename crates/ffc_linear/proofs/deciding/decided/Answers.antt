use Rattle.std.proofs.Common.{◌+◌, ◌-◌, ◌*◌, List, All, length, sym, subst}
use Rattle.ffc_base.specs.Metering.{total}
use Rattle.ffc_check.specs.Judged.{judged_check}
use Rattle.ffc_echelon.specs.Vectors.{Coordinates, AreCoordinates}
use Rattle.ffc_refutation.specs.Forcing.{IsConflict}
use Rattle.ffc_linear.specs.Forming.{IsAffineIn}
use Rattle.ffc_linear.proofs.DecisionLemmas.{constants_few, constants_in_order, equations_affine, disequations_affine, is_system, steps_within, forms_same, not_spent}
use Rattle.ffc_linear.proofs.deciding.decided.Goals as goal

pub returns-then-conjunction-clause-answer : goal.returns-then-conjunction-clause-answer
returns-then-conjunction-clause-answer g c =
    let check = judged_check c.args.check.now in
    let conflict = c.requires.literals.clash c.if-conjunction.true in
    (c.requires.linear, c.in_ok-lines.ensures.readable, c.in_ok-lines.ensures.right check (subst (IsConflict check) (sym c.as_slice.ensures.value) conflict))

pub affine_forms-requires-clause-few : goal.affine_forms-requires-clause-few
affine_forms-requires-clause-few g c = constants_few (judged_check c.args.check.now) g.F.Field.ORDER c.args.conjunction.now c.args.constants.now (c.args.meter.now.budget - total c.args.meter.now) c.requires.valid c.requires.field c.requires.literals c.requires.constants c.requires.linear

pub affine_forms-requires-clause-increasing : goal.affine_forms-requires-clause-increasing
affine_forms-requires-clause-increasing g c = constants_in_order (judged_check c.args.check.now) g.F.Field.ORDER c.args.conjunction.now c.args.constants.now (c.args.meter.now.budget - total c.args.meter.now) c.requires.valid c.requires.field c.requires.literals c.requires.constants c.requires.linear

pub affine_forms-requires-clause-affine : goal.affine_forms-requires-clause-affine
affine_forms-requires-clause-affine g c =
    subst (All (IsAffineIn g.F.Field.ORDER c.args.check.now.table.now c.args.constants.now)) (sym c.as_slice-equations.ensures.value)
    (equations_affine (judged_check c.args.check.now) g.F.Field.ORDER c.args.conjunction.now c.args.constants.now (c.args.meter.now.budget - total c.args.meter.now) c.requires.valid c.requires.field c.requires.literals c.requires.constants c.requires.linear)

pub affine_forms-requires-2-clause-few : goal.affine_forms-requires-2-clause-few
affine_forms-requires-2-clause-few g c = constants_few (judged_check c.args.check.now) g.F.Field.ORDER c.args.conjunction.now c.args.constants.now (c.args.meter.now.budget - total c.args.meter.now) c.requires.valid c.requires.field c.requires.literals c.requires.constants c.requires.linear

pub affine_forms-requires-2-clause-increasing : goal.affine_forms-requires-2-clause-increasing
affine_forms-requires-2-clause-increasing g c = constants_in_order (judged_check c.args.check.now) g.F.Field.ORDER c.args.conjunction.now c.args.constants.now (c.args.meter.now.budget - total c.args.meter.now) c.requires.valid c.requires.field c.requires.literals c.requires.constants c.requires.linear

pub affine_forms-requires-2-clause-affine : goal.affine_forms-requires-2-clause-affine
affine_forms-requires-2-clause-affine g c =
    subst (All (IsAffineIn g.F.Field.ORDER c.args.check.now.table.now c.args.constants.now)) (sym c.as_slice-disequations.ensures.value)
    (disequations_affine (judged_check c.args.check.now) g.F.Field.ORDER c.args.conjunction.now c.args.constants.now (c.args.meter.now.budget - total c.args.meter.now) c.requires.valid c.requires.field c.requires.literals c.requires.constants c.requires.linear)

pub settled-requires : goal.settled-requires
settled-requires g c =
    let p = g.F.Field.ORDER in
    let nodes = c.args.check.now.table.now in
    let conjunction = c.args.conjunction.now in
    let equal : List Coordinates = c.as_slice-equal.result.now in
    let unequal : List Coordinates = c.as_slice-unequal.result.now in
    is_system (judged_check c.args.check.now) g.F.Field.ORDER c.args.conjunction.now c.args.constants.now (c.args.meter.now.budget - total c.args.meter.now) c.requires.valid c.requires.field c.requires.literals c.requires.constants c.requires.linear
    c.requires.order c.if-conjunction.false equal unequal
    (forms_same p nodes c.args.constants.now c.as_slice-equations.result.now conjunction.equations.items c.in_ok-equal.equal.items equal c.as_slice-equations.ensures.value c.as_slice-equal.ensures.value c.in_ok-equal.ensures.forms)
    (forms_same p nodes c.args.constants.now c.as_slice-disequations.result.now conjunction.disequations.items c.in_ok-unequal.unequal.items unequal c.as_slice-disequations.ensures.value c.as_slice-unequal.ensures.value c.in_ok-unequal.ensures.forms)
    (subst (λ (vs : List Coordinates). All (AreCoordinates p) vs) (sym c.as_slice-equal.ensures.value) c.in_ok-equal.ensures.valid)
    (subst (λ (vs : List Coordinates). All (AreCoordinates p) vs) (sym c.as_slice-unequal.ensures.value) c.in_ok-unequal.ensures.valid)

pub out_of_memory-requires : goal.out_of_memory-requires
out_of_memory-requires g c =
    let p = g.F.Field.ORDER in
    let nodes = c.args.check.now.table.now in
    let conjunction = c.args.conjunction.now in
    let equal : List Coordinates = c.as_slice-equal.result.now in
    let unequal : List Coordinates = c.as_slice-unequal.result.now in
    let n = length c.args.constants.now in
    not_spent ((length equal + length unequal) * n + n * (length unequal + 1)) c.settled.result c.in-Err.stop c.args.meter.now c.settled.new.meter c.settled.ensures.units c.requires.budget
    (steps_within (judged_check c.args.check.now) g.F.Field.ORDER c.args.conjunction.now c.args.constants.now (c.args.meter.now.budget - total c.args.meter.now) c.requires.valid c.requires.field c.requires.literals c.requires.constants c.requires.linear
    c.requires.order c.if-conjunction.false equal unequal
    (forms_same p nodes c.args.constants.now c.as_slice-equations.result.now conjunction.equations.items c.in_ok-equal.equal.items equal c.as_slice-equations.ensures.value c.as_slice-equal.ensures.value c.in_ok-equal.ensures.forms)
    (forms_same p nodes c.args.constants.now c.as_slice-disequations.result.now conjunction.disequations.items c.in_ok-unequal.unequal.items unequal c.as_slice-disequations.ensures.value c.as_slice-unequal.ensures.value c.in_ok-unequal.ensures.forms))
    c.in-Err.is
