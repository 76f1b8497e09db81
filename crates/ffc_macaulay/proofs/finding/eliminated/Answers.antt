use Rattle.std.proofs.Common.{◌≡◌, ◌+◌, ◌-◌, ◌*◌, ◌<◌, List, Ok, length, map, get_or, All, sym, ap, ap₂, ◌∙◌, subst, arith}
use Rattle.std.proofs.lemmas.List.{length-map}
use Rattle.std.proofs.lemmas.List.Elements.{All-map, recursion_from_All}
use Rattle.ffc_base.specs.declared.meter.Unit.TheVariants as unit
use Rattle.ffc_base.specs.declared.stop.Stop.TheVariants as stops
use Rattle.ffc_echelon.specs.Forms.{IsContradiction}
use Rattle.ffc_echelon.specs.Outcomes.{IsOutcome}
use Rattle.ffc_echelon.specs.Vectors.{Coordinates, IsBelow}
use Rattle.ffc_echelon.proofs.TrialLemmas.{none_taken, not_spent, spent_part, taken_more, taken_of, takes_freely, takes_later}
use Rattle.ffc_refutation.specs.Combinations.{IsNonzeroConstant}
use Rattle.ffc_bounds.specs.Monomials.{columns, rows}
use Rattle.ffc_macaulay.specs.Refuting.{summands_of}
use Rattle.ffc_macaulay.specs.declared.finding.Found.TheVariants.{Identity}
use Rattle.ffc_macaulay.proofs.MatrixLemmas.{rows_within, few_columns, one_row_each, row_count, elimination_within, memory_not_spent}
use Rattle.ffc_macaulay.proofs.RefutingLemmas.{few_summands, contradicted}
use Rattle.ffc_macaulay.proofs.finding.eliminated.Goals as goal

pub overflow_cast-unknowns : goal.overflow_cast-unknowns
overflow_cast-unknowns g c =
    let few = few_columns g.F.Field.ORDER c.args.degree c.args.variables.now c.args.degrees.now c.args.generators.now c.in_ok-matrix.matrix.unknowns.keys c.in_ok-matrix.matrix.multiples.items c.in_ok-matrix.matrix.rows.items c.in_ok-matrix.ensures in
    omega (arith, few, c.requires.columns, c.len-unknowns.ensures.len)

pub eliminate-requires-clause-within : goal.eliminate-requires-clause-within
eliminate-requires-clause-within g c =
    subst (λ n. All (IsBelow (n + 1)) c.as_slice.result.now) (sym c.len-unknowns.ensures.len)
    (subst (All (IsBelow (length c.in_ok-matrix.matrix.unknowns.keys + 1))) (sym c.as_slice.ensures.value)
    (rows_within g.F.Field.ORDER c.args.degree c.args.variables.now c.args.degrees.now c.args.generators.now c.in_ok-matrix.matrix.unknowns.keys c.in_ok-matrix.matrix.multiples.items c.in_ok-matrix.matrix.rows.items c.in_ok-matrix.ensures))

pub eliminate-requires-clause-columns : goal.eliminate-requires-clause-columns
eliminate-requires-clause-columns g c =
    let few = few_columns g.F.Field.ORDER c.args.degree c.args.variables.now c.args.degrees.now c.args.generators.now c.in_ok-matrix.matrix.unknowns.keys c.in_ok-matrix.matrix.multiples.items c.in_ok-matrix.matrix.rows.items c.in_ok-matrix.ensures in
    omega (arith, few, c.requires.columns, c.len-unknowns.ensures.len)

pub eliminate-requires-clause-few : goal.eliminate-requires-clause-few
eliminate-requires-clause-few g c =
    let p = g.F.Field.ORDER in
    let d = c.args.degree in
    let xs = c.args.variables.now in
    let degrees = c.args.degrees.now in
    let generators = c.args.generators.now in
    let keys = c.in_ok-matrix.matrix.unknowns.keys in
    let ms = c.in_ok-matrix.matrix.multiples.items in
    let vs = c.in_ok-matrix.matrix.rows.items in
    let each = one_row_each p d xs degrees generators keys ms vs c.in_ok-matrix.ensures in
    let all = row_count p d xs degrees generators keys ms vs c.in_ok-matrix.ensures in
    let same = ap length c.as_slice.ensures.value in
    omega (arith, each, all, same, c.requires.rows)

pub returns-in_err-outcome-clause-units : goal.returns-in_err-outcome-clause-units
returns-in_err-outcome-clause-units g c =
    let within = elimination_within g.F.Field.ORDER c.args.degree c.args.variables.now c.args.degrees.now c.args.generators.now c.in_ok-matrix.matrix.unknowns.keys c.in_ok-matrix.matrix.multiples.items c.in_ok-matrix.matrix.rows.items c.in_ok-matrix.ensures
    c.as_slice.result.now c.len-unknowns.result c.as_slice.ensures.value c.len-unknowns.ensures.len in
    takes_later unit.Reduction 0 (length c.as_slice.result.now * c.len-unknowns.result) (rows c.args.degree c.args.variables.now c.args.degrees.now * (columns c.args.degree c.args.variables.now - 1)) stops.Spent c.eliminate.result c.from_residual-in_err-outcome.result
    c.args.meter.now c.args.meter.now c.eliminate.new.meter (omega (arith, within))
    (spent_part c.eliminate.result c.from_residual-in_err-outcome.result c.in_err-outcome.field-0.0 stops.Spent c.in_err-outcome.was c.from_residual-in_err-outcome.ensures.1)
    (none_taken unit.Reduction 0 c.args.meter.now) c.eliminate.ensures.units

pub summands_of-requires : goal.summands_of-requires
summands_of-requires g c =
    let p = g.F.Field.ORDER in
    let d = c.args.degree in
    let xs = c.args.variables.now in
    let degrees = c.args.degrees.now in
    let generators = c.args.generators.now in
    let keys = c.in_ok-matrix.matrix.unknowns.keys in
    let ms = c.in_ok-matrix.matrix.multiples.items in
    let vs = c.in_ok-matrix.matrix.rows.items in
    let value = g.F.Field.value in
    let n = c.len-unknowns.result in
    let cs = map value c.in-Contradiction.coefficients.items in
    let outcome : IsContradiction p n c.as_slice.result.now cs = subst (IsOutcome p value n c.as_slice.result.now) c.in-Contradiction.is c.in_ok-outcome.ensures.found in
    ap length c.as_slice-in-Contradiction.ensures.value ∙ sym (length-map c.in-Contradiction.coefficients.items value) ∙ outcome.long
    ∙ ap length c.as_slice.ensures.value ∙ one_row_each p d xs degrees generators keys ms vs c.in_ok-matrix.ensures ∙ ap length (sym c.as_slice-multiples.ensures.value)

pub returns-in_err-summands-in-Contradiction-clause-units : goal.returns-in_err-summands-in-Contradiction-clause-units
returns-in_err-summands-in-Contradiction-clause-units g c =
    let within = elimination_within g.F.Field.ORDER c.args.degree c.args.variables.now c.args.degrees.now c.args.generators.now c.in_ok-matrix.matrix.unknowns.keys c.in_ok-matrix.matrix.multiples.items c.in_ok-matrix.matrix.rows.items c.in_ok-matrix.ensures
    c.as_slice.result.now c.len-unknowns.result c.as_slice.ensures.value c.len-unknowns.ensures.len in
    let bound = rows c.args.degree c.args.variables.now c.args.degrees.now * (columns c.args.degree c.args.variables.now - 1) in
    takes_freely unit.Reduction bound stops.Spent c.from_residual-in_err-summands-in-Contradiction.result c.args.meter.now c.eliminate.new.meter
    (λ e. memory_not_spent c.from_residual-in_err-summands-in-Contradiction.result c.from_residual-in_err-summands-in-Contradiction.ensures.1 e)
    (taken_more unit.Reduction (length c.as_slice.result.now * c.len-unknowns.result) bound c.args.meter.now c.eliminate.new.meter within
    (taken_of unit.Reduction (length c.as_slice.result.now * c.len-unknowns.result) stops.Spent c.eliminate.result c.args.meter.now c.eliminate.new.meter c.eliminate.ensures.units))

pub returns-in_ok-summands-in-Contradiction-clause-found : goal.returns-in_ok-summands-in-Contradiction-clause-found
returns-in_ok-summands-in-Contradiction-clause-found g c =
    let p = g.F.Field.ORDER in
    let d = c.args.degree in
    let xs = c.args.variables.now in
    let degrees = c.args.degrees.now in
    let generators = c.args.generators.now in
    let keys = c.in_ok-matrix.matrix.unknowns.keys in
    let ms = c.in_ok-matrix.matrix.multiples.items in
    let vs = c.in_ok-matrix.matrix.rows.items in
    let value = g.F.Field.value in
    let n = c.len-unknowns.result in
    let cs = map value c.in-Contradiction.coefficients.items in
    let outcome : IsContradiction p n c.as_slice.result.now cs = subst (IsOutcome p value n c.as_slice.result.now) c.in-Contradiction.is c.in_ok-outcome.ensures.found in
    let below : All (λ x. x < p) cs = All-map (λ x. x < p) value c.in-Contradiction.coefficients.items (λ k i inside. g.met.F.Field.below (get_or c.in-Contradiction.coefficients.items k i)) in
    let is : IsContradiction p (length keys) vs cs =
    subst (λ m. IsContradiction p m vs cs) c.len-unknowns.ensures.len (subst (λ (rows : List Coordinates). IsContradiction p n rows cs) c.as_slice.ensures.value outcome) in
    let all = row_count p d xs degrees generators keys ms vs c.in_ok-matrix.ensures in
    let each = one_row_each p d xs degrees generators keys ms vs c.in_ok-matrix.ensures in
    let few = few_summands ms cs in
    let summands : c.in_ok-summands-in-Contradiction.summands.items ≡ summands_of ms cs =
    c.in_ok-summands-in-Contradiction.ensures ∙ ap₂ (λ a b. summands_of a (map value b)) c.as_slice-multiples.ensures.value c.as_slice-in-Contradiction.ensures.value in (
      (let same = ap length summands in omega (arith, few, same, all, c.requires.rows)),
      λ lines lines_are. subst (IsNonzeroConstant p lines) (sym summands)
          (contradicted p d xs degrees generators c.requires.generators keys ms vs c.in_ok-matrix.ensures lines cs (omega (arith, g.met.F.Field.prime.least)) lines_are c.requires.limit c.requires.columns (recursion_from_All (λ x. x < p) cs below)
          (is.long ∙ each) is),
    )

pub returns-in_ok-summands-in-Contradiction-clause-units : goal.returns-in_ok-summands-in-Contradiction-clause-units
returns-in_ok-summands-in-Contradiction-clause-units g c =
    let within = elimination_within g.F.Field.ORDER c.args.degree c.args.variables.now c.args.degrees.now c.args.generators.now c.in_ok-matrix.matrix.unknowns.keys c.in_ok-matrix.matrix.multiples.items c.in_ok-matrix.matrix.rows.items c.in_ok-matrix.ensures
    c.as_slice.result.now c.len-unknowns.result c.as_slice.ensures.value c.len-unknowns.ensures.len in
    let bound = rows c.args.degree c.args.variables.now c.args.degrees.now * (columns c.args.degree c.args.variables.now - 1) in
    takes_freely unit.Reduction bound stops.Spent (Ok (Identity c.in_ok-summands-in-Contradiction.summands)) c.args.meter.now c.eliminate.new.meter
    (not_spent (Identity c.in_ok-summands-in-Contradiction.summands) stops.Spent)
    (taken_more unit.Reduction (length c.as_slice.result.now * c.len-unknowns.result) bound c.args.meter.now c.eliminate.new.meter within
    (taken_of unit.Reduction (length c.as_slice.result.now * c.len-unknowns.result) stops.Spent c.eliminate.result c.args.meter.now c.eliminate.new.meter c.eliminate.ensures.units))

pub returns-in-Form-clause-units : goal.returns-in-Form-clause-units
returns-in-Form-clause-units g c =
    let within = elimination_within g.F.Field.ORDER c.args.degree c.args.variables.now c.args.degrees.now c.args.generators.now c.in_ok-matrix.matrix.unknowns.keys c.in_ok-matrix.matrix.multiples.items c.in_ok-matrix.matrix.rows.items c.in_ok-matrix.ensures
    c.as_slice.result.now c.len-unknowns.result c.as_slice.ensures.value c.len-unknowns.ensures.len in
    let bound = rows c.args.degree c.args.variables.now c.args.degrees.now * (columns c.args.degree c.args.variables.now - 1) in
    takes_freely unit.Reduction bound stops.Spent _ c.args.meter.now c.eliminate.new.meter
    (not_spent _ stops.Spent)
    (taken_more unit.Reduction (length c.as_slice.result.now * c.len-unknowns.result) bound c.args.meter.now c.eliminate.new.meter within
    (taken_of unit.Reduction (length c.as_slice.result.now * c.len-unknowns.result) stops.Spent c.eliminate.result c.args.meter.now c.eliminate.new.meter c.eliminate.ensures.units))
