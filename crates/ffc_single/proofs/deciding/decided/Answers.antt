use Rattle.std.proofs.Common.{◌≡◌, ◌+◌, List, Ok, length, All, sym, ap, ◌∙◌, subst, arith}
use Rattle.std.specs.Prelude.{IfSome}
use Rattle.std.proofs.lemmas.List.{length-map}
use Rattle.ffc_base.specs.declared.stop.Stop.TheVariants.{Spent}
use Rattle.ffc_check.specs.Judged.{judged_check}
use Rattle.ffc_linear.proofs.UnitLemmas.{taken_within}
use Rattle.ffc_roots.proofs.Cases.{part_was_spent}
use Rattle.ffc_uni.specs.Univariate.{Coefficients}
use Rattle.ffc_single.specs.Bounds.{greatest_degree}
use Rattle.ffc_single.specs.Decisions.{HasDivisor}
use Rattle.ffc_single.specs.Dividing.{IsDivisorOf}
use Rattle.ffc_single.specs.Univariate.{IsEqualityIn, AreFormsOf}
use Rattle.ffc_single.proofs.CommonRootLemmas.{forms_as, forms_within, forms_low, number_of_forms}
use Rattle.ffc_single.proofs.DecisionLemmas.{divisor_units, divisor_spent, nothing_to_decide, roots_spent}
use Rattle.ffc_single.proofs.FlatLemmas.{equations_in, disequations_in}
use Rattle.ffc_single.proofs.deciding.decided.Goals as goal

pub differences-requires-clause-equalities : goal.differences-requires-clause-equalities
differences-requires-clause-equalities g c =
    subst (All (IsEqualityIn g.F.Field.ORDER c.args.check.now.table.now c.args.variable)) (sym c.as_slice-equations.ensures.value)
    (equations_in (judged_check c.args.check.now) g.F.Field.ORDER c.args.variable c.args.conjunction.now c.requires)

pub divisor_of-requires-clause-few : goal.divisor_of-requires-clause-few
divisor_of-requires-clause-few g c =
    let check = judged_check c.args.check.now in
    let p = g.F.Field.ORDER in
    let conjunction = c.args.conjunction.now in
    let equal : List Coefficients = c.as_slice.result.now in
    let forms : AreFormsOf p check.nodes c.args.variable conjunction.equations.items equal =
    forms_as p check.nodes c.args.variable conjunction.equations.items c.as_slice-equations.result.now c.in_ok-equal.equal.items equal c.as_slice-equations.ensures.value c.as_slice.ensures.value c.in_ok-equal.ensures.forms in
    let count = number_of_forms check p c.args.variable conjunction c.requires equal forms in
    let few = c.requires.few in
    omega (arith, count, few)

pub divisor_of-requires-clause-low : goal.divisor_of-requires-clause-low
divisor_of-requires-clause-low g c =
    let check = judged_check c.args.check.now in
    let p = g.F.Field.ORDER in
    let conjunction = c.args.conjunction.now in
    let equal : List Coefficients = c.as_slice.result.now in
    let forms : AreFormsOf p check.nodes c.args.variable conjunction.equations.items equal =
    forms_as p check.nodes c.args.variable conjunction.equations.items c.as_slice-equations.result.now c.in_ok-equal.equal.items equal c.as_slice-equations.ensures.value c.as_slice.ensures.value c.in_ok-equal.ensures.forms in
    forms_within p check.nodes c.args.variable conjunction.equations.items equal forms (equations_in check p c.args.variable conjunction c.requires)

pub returns-in_err-divisor-clause-units : goal.returns-in_err-divisor-clause-units
returns-in_err-divisor-clause-units g c = λ spent.
    (let check = judged_check c.args.check.now in
    let p = g.F.Field.ORDER in
    let conjunction = c.args.conjunction.now in
    let equal : List Coefficients = c.as_slice.result.now in
    let forms : AreFormsOf p check.nodes c.args.variable conjunction.equations.items equal =
    forms_as p check.nodes c.args.variable conjunction.equations.items c.as_slice-equations.result.now c.in_ok-equal.equal.items equal c.as_slice-equations.ensures.value c.as_slice.ensures.value c.in_ok-equal.ensures.forms in
    let takes = c.in_err-divisor.ensures.units (greatest_degree check + 1) (forms_low check p c.args.variable conjunction c.requires equal forms) in
    divisor_spent check p c.args.variable conjunction c.requires equal forms c.args.meter.now
    (takes.spent_only (part_was_spent _ _ c.from_residual-in_err-divisor.result c.in_err-divisor.field-0.0 c.from_residual-in_err-divisor.ensures.1 spent)))

pub returns-in_default-clause-answer : goal.returns-in_default-clause-answer
returns-in_default-clause-answer g c = λ units d.
    (let check = judged_check c.args.check.now in
    let p = g.F.Field.ORDER in
    let conjunction = c.args.conjunction.now in
    let equal : List Coefficients = c.as_slice.result.now in
    let forms : AreFormsOf p check.nodes c.args.variable conjunction.equations.items equal =
    forms_as p check.nodes c.args.variable conjunction.equations.items c.as_slice-equations.result.now c.in_ok-equal.equal.items equal c.as_slice-equations.ensures.value c.as_slice.ensures.value c.in_ok-equal.ensures.forms in
    nothing_to_decide check p c.args.variable conjunction c.requires equal forms (c.divisor_of.ensures.none (c.in_ok-divisor.was ∙ ap Ok c.in_default.is)) units d)

pub without_roots-requires : goal.without_roots-requires
without_roots-requires g c =
    let check = judged_check c.args.check.now in
    let p = g.F.Field.ORDER in
    let conjunction = c.args.conjunction.now in
    let equal : List Coefficients = c.as_slice.result.now in
    let forms : AreFormsOf p check.nodes c.args.variable conjunction.equations.items equal =
    forms_as p check.nodes c.args.variable conjunction.equations.items c.as_slice-equations.result.now c.in_ok-equal.equal.items equal c.as_slice-equations.ensures.value c.as_slice.ensures.value c.in_ok-equal.ensures.forms in
    let is : IsDivisorOf {F = g.row.F.Denot} p equal (length equal) c.in-Some.divisor = subst (λ o. IfSome o (IsDivisorOf {F = g.row.F.Denot} p equal (length equal))) c.in-Some.is c.in_ok-divisor.ensures.some in
    let has : HasDivisor {F = g.row.F.Denot} check p c.args.variable conjunction c.in-Some.divisor = record { flat = c.requires; equal = equal; forms = forms; is = is } in
    record {
      divisor_is = has;
      constant = ap length (sym c.coefs.ensures.value) ∙ length-map c.coefs.result.now g.F.Field.value ∙ c.if-coefs-eq1.true;
    }

pub returns-in_err-roots-clause-units : goal.returns-in_err-roots-clause-units
returns-in_err-roots-clause-units g c = λ spent.
    (let check = judged_check c.args.check.now in
    let p = g.F.Field.ORDER in
    let conjunction = c.args.conjunction.now in
    let equal : List Coefficients = c.as_slice.result.now in
    let forms : AreFormsOf p check.nodes c.args.variable conjunction.equations.items equal =
    forms_as p check.nodes c.args.variable conjunction.equations.items c.as_slice-equations.result.now c.in_ok-equal.equal.items equal c.as_slice-equations.ensures.value c.as_slice.ensures.value c.in_ok-equal.ensures.forms in
    let is : IsDivisorOf {F = g.row.F.Denot} p equal (length equal) c.in-Some.divisor = subst (λ o. IfSome o (IsDivisorOf {F = g.row.F.Denot} p equal (length equal))) c.in-Some.is c.in_ok-divisor.ensures.some in
    let has : HasDivisor {F = g.row.F.Denot} check p c.args.variable conjunction c.in-Some.divisor = record { flat = c.requires; equal = equal; forms = forms; is = is } in
    let units = divisor_units (length equal) (greatest_degree check) in
    let taken = taken_within units Spent c.divisor_of.result c.args.meter.now c.divisor_of.new.meter (c.divisor_of.ensures.units (greatest_degree check + 1) (forms_low check p c.args.variable conjunction c.requires equal forms)) in
    roots_spent check p c.args.variable conjunction c.in-Some.divisor c.args.meter.now c.divisor_of.new.meter has taken
    (c.in_err-roots.ensures.few (part_was_spent _ _ c.from_residual-in_err-roots.result c.in_err-roots.field-0.0 c.from_residual-in_err-roots.ensures.1 spent)))

pub differences-requires-2-clause-equalities : goal.differences-requires-2-clause-equalities
differences-requires-2-clause-equalities g c =
    subst (All (IsEqualityIn g.F.Field.ORDER c.args.check.now.table.now c.args.variable)) (sym c.as_slice-disequations.ensures.value)
    (disequations_in (judged_check c.args.check.now) g.F.Field.ORDER c.args.variable c.args.conjunction.now c.requires)

pub at_roots-requires-clause-roots : goal.at_roots-requires-clause-roots
at_roots-requires-clause-roots g c =
    let check = judged_check c.args.check.now in
    let p = g.F.Field.ORDER in
    let conjunction = c.args.conjunction.now in
    let equal : List Coefficients = c.as_slice.result.now in
    let forms : AreFormsOf p check.nodes c.args.variable conjunction.equations.items equal =
    forms_as p check.nodes c.args.variable conjunction.equations.items c.as_slice-equations.result.now c.in_ok-equal.equal.items equal c.as_slice-equations.ensures.value c.as_slice.ensures.value c.in_ok-equal.ensures.forms in
    let is : IsDivisorOf {F = g.row.F.Denot} p equal (length equal) c.in-Some.divisor = subst (λ o. IfSome o (IsDivisorOf {F = g.row.F.Denot} p equal (length equal))) c.in-Some.is c.in_ok-divisor.ensures.some in
    let has : HasDivisor {F = g.row.F.Denot} check p c.args.variable conjunction c.in-Some.divisor = record { flat = c.requires; equal = equal; forms = forms; is = is } in
    let long : length c.coefs.result.now ≡ length c.in-Some.divisor.value = sym (length-map c.coefs.result.now g.F.Field.value) ∙ ap length c.coefs.ensures.value in
    let other = c.if-coefs-eq1.false in
    let some = is.some in
    record {
      divisor_is = has;
      some = omega (arith, long, other, some);
      found = c.in_ok-roots.ensures.found;
      forms = forms_as p check.nodes c.args.variable conjunction.disequations.items c.as_slice-disequations.result.now c.in_ok-unequal.unequal.items c.as_slice-unequal.result.now c.as_slice-disequations.ensures.value c.as_slice-unequal.ensures.value c.in_ok-unequal.ensures.forms;
    }
