use Rattle.std.proofs.Common.{◌-◌, ◌*◌, ◌≤◌, length, take, refl, subst, arith}
use Rattle.std.specs.Prelude.{IfNone, IfSome}
use Rattle.std.specs.List.{AllZip}
use Rattle.ffc_base.specs.declared.stop.Stop.TheVariants as stops
use Rattle.ffc_bounds.specs.Monomials.{columns, rows}
use Rattle.ffc_echelon.proofs.TrialLemmas.{not_spent, spent_part}
use Rattle.ffc_macaulay.specs.Finding.{IsFound}
use Rattle.ffc_macaulay.specs.Solutions.{IsSolution}
use Rattle.ffc_macaulay.specs.Solving.{HasOpen, IsValueOf}
use Rattle.ffc_macaulay.proofs.ConstantLemmas.{increasing_take, variables_listed}
use Rattle.ffc_macaulay.proofs.MatrixLemmas.{both_within, elimination_within, few_columns, one_row_each, within_two}
use Rattle.ffc_macaulay.proofs.SolvingLemmas.{no_identity, solution_of, some_open}
use Rattle.ffc_macaulay.proofs.ZipLemmas.{zip_weaker}
use Rattle.ffc_macaulay.proofs.solving.solved.Goals as goal

pub values_of-requires-clause-rows : goal.values_of-requires-clause-rows
values_of-requires-clause-rows g c =
    let p = g.F.Field.ORDER in
    let d = c.args.degree in
    let xs = c.args.variables.now in
    let degrees = c.args.degrees.now in
    let generators = c.args.generators.now in
    let m = c.in-Form.matrix in
    let found = subst (IsFound p d xs degrees generators) c.in-Form.is c.in_ok-summands.ensures.found in
    one_row_each p d xs degrees generators m.unknowns.keys m.multiples.items m.rows.items found.0

pub values_of-requires-clause-few : goal.values_of-requires-clause-few
values_of-requires-clause-few g c =
    let p = g.F.Field.ORDER in
    let d = c.args.degree in
    let xs = c.args.variables.now in
    let degrees = c.args.degrees.now in
    let generators = c.args.generators.now in
    let m = c.in-Form.matrix in
    let found = subst (IsFound p d xs degrees generators) c.in-Form.is c.in_ok-summands.ensures.found in
    let few = few_columns p d xs degrees generators m.unknowns.keys m.multiples.items m.rows.items found.0 in
    omega (arith, few, c.requires.columns)

pub values_of-requires-clause-rises : goal.values_of-requires-clause-rises
values_of-requires-clause-rises g c = increasing_take c.args.constants c.args.variables.now c.requires.rises

pub values_of-requires-clause-listed : goal.values_of-requires-clause-listed
values_of-requires-clause-listed g c =
    let p = g.F.Field.ORDER in
    let d = c.args.degree in
    let xs = c.args.variables.now in
    let degrees = c.args.degrees.now in
    let generators = c.args.generators.now in
    let m = c.in-Form.matrix in
    let found = subst (IsFound p d xs degrees generators) c.in-Form.is c.in_ok-summands.ensures.found in
    variables_listed d c.args.constants xs m.unknowns.keys c.requires.rises c.requires.least found.0.unknowns_are

pub returns-in_err-values-in-Form-clause-units : goal.returns-in_err-values-in-Form-clause-units
returns-in_err-values-in-Form-clause-units g c =
    let p = g.F.Field.ORDER in
    let d = c.args.degree in
    let xs = c.args.variables.now in
    let degrees = c.args.degrees.now in
    let generators = c.args.generators.now in
    let m = c.in-Form.matrix in
    let found = subst (IsFound p d xs degrees generators) c.in-Form.is c.in_ok-summands.ensures.found in
    let a = rows d xs degrees in
    let b = columns d xs - 1 in
    let k = length m.rows.items * length m.unknowns.keys in
    let few : k ≤ a * b = elimination_within p d xs degrees generators m.unknowns.keys m.multiples.items m.rows.items found.0 m.rows.items (length m.unknowns.keys) refl refl in
    within_two (a * b) k (2 * a * b) stops.Spent c.eliminated.result c.values_of.result c.from_residual-in_err-values-in-Form.result c.args.meter.now c.eliminated.new.meter c.values_of.new.meter (both_within a b k few)
    (spent_part c.values_of.result c.from_residual-in_err-values-in-Form.result c.in_err-values-in-Form.field-0.0 stops.Spent c.in_err-values-in-Form.was c.from_residual-in_err-values-in-Form.ensures.1)
    c.eliminated.ensures.units c.values_of.ensures.units

pub returns-in-Some-clause-answer : goal.returns-in-Some-clause-answer
returns-in-Some-clause-answer g c = λ lines lines_are.
    let p = g.F.Field.ORDER in
    let d = c.args.degree in
    let xs = c.args.variables.now in
    let degrees = c.args.degrees.now in
    let generators = c.args.generators.now in
    let m = c.in-Form.matrix in
    let keys = m.unknowns.keys in
    let ms = m.multiples.items in
    let vs = m.rows.items in
    let found = subst (IsFound p d xs degrees generators) c.in-Form.is c.in_ok-summands.ensures.found in
    let given = take c.args.constants xs in
    let are = subst (λ o. IfSome o (λ values. AllZip (IsValueOf p keys ms vs) given values.items)) c.in-Some.is c.in_ok-values-in-Form.ensures.some in
    zip_weaker (IsValueOf p keys ms vs) (IsSolution p d xs degrees lines)
    (λ x v is. solution_of p d xs degrees generators c.requires.generators keys ms vs found.0 g.met.F.Field.prime.least c.in-Form.form found.1 lines lines_are c.requires.limit c.requires.columns c.requires.rows x v is)
    given c.in-Some.values.items are

pub returns-in-Some-clause-units : goal.returns-in-Some-clause-units
returns-in-Some-clause-units g c =
    let p = g.F.Field.ORDER in
    let d = c.args.degree in
    let xs = c.args.variables.now in
    let degrees = c.args.degrees.now in
    let generators = c.args.generators.now in
    let m = c.in-Form.matrix in
    let found = subst (IsFound p d xs degrees generators) c.in-Form.is c.in_ok-summands.ensures.found in
    let a = rows d xs degrees in
    let b = columns d xs - 1 in
    let k = length m.rows.items * length m.unknowns.keys in
    let few : k ≤ a * b = elimination_within p d xs degrees generators m.unknowns.keys m.multiples.items m.rows.items found.0 m.rows.items (length m.unknowns.keys) refl refl in
    within_two (a * b) k (2 * a * b) stops.Spent c.eliminated.result c.values_of.result _ c.args.meter.now c.eliminated.new.meter c.values_of.new.meter (both_within a b k few)
    (λ e. absurd (not_spent _ stops.Spent e)) c.eliminated.ensures.units c.values_of.ensures.units

pub returns-clause-answer : goal.returns-clause-answer
returns-clause-answer g c = λ lines lines_are.
    let p = g.F.Field.ORDER in
    let d = c.args.degree in
    let xs = c.args.variables.now in
    let degrees = c.args.degrees.now in
    let generators = c.args.generators.now in
    let m = c.in-Form.matrix in
    let keys = m.unknowns.keys in
    let ms = m.multiples.items in
    let vs = m.rows.items in
    let form = c.in-Form.form in
    let found = subst (IsFound p d xs degrees generators) c.in-Form.is c.in_ok-summands.ensures.found in
    let given = take c.args.constants xs in
    let left = subst (λ o. IfNone o (HasOpen p keys form.kept given)) c.in-None.is c.in_ok-values-in-Form.ensures.none in (
      no_identity p d xs degrees generators c.requires.generators keys ms vs found.0 g.met.F.Field.prime.least form found.1 lines lines_are,
      some_open p d xs degrees generators c.requires.generators keys ms vs found.0 g.met.F.Field.prime.least form found.1 lines lines_are given left,
    )

pub returns-clause-units : goal.returns-clause-units
returns-clause-units g c =
    let p = g.F.Field.ORDER in
    let d = c.args.degree in
    let xs = c.args.variables.now in
    let degrees = c.args.degrees.now in
    let generators = c.args.generators.now in
    let m = c.in-Form.matrix in
    let found = subst (IsFound p d xs degrees generators) c.in-Form.is c.in_ok-summands.ensures.found in
    let a = rows d xs degrees in
    let b = columns d xs - 1 in
    let k = length m.rows.items * length m.unknowns.keys in
    let few : k ≤ a * b = elimination_within p d xs degrees generators m.unknowns.keys m.multiples.items m.rows.items found.0 m.rows.items (length m.unknowns.keys) refl refl in
    within_two (a * b) k (2 * a * b) stops.Spent c.eliminated.result c.values_of.result _ c.args.meter.now c.eliminated.new.meter c.values_of.new.meter (both_within a b k few)
    (λ e. absurd (not_spent _ stops.Spent e)) c.eliminated.ensures.units c.values_of.ensures.units
