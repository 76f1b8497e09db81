use Rattle.std.proofs.Common.{List, ◌+◌, ◌*◌, length, take, get_or, sym, subst, arith}
use Rattle.std.specs.Prelude.{IfSome}
use Rattle.std.specs.List.{AllZip}
use Rattle.ffc_base.specs.declared.meter.Unit.TheVariants as unit
use Rattle.ffc_base.specs.declared.stop.Stop.TheVariants as stops
use Rattle.ffc_refutation.specs.declared.combination.Determined.{Determined}
use Rattle.ffc_echelon.proofs.TrialLemmas.{not_spent, spent_part, taken_later, taken_of, takes_freely, takes_later}
use Rattle.ffc_macaulay.specs.Solving.{IsValueIn}
use Rattle.ffc_macaulay.proofs.MatrixLemmas.{memory_not_spent, turn_within}
use Rattle.ffc_macaulay.proofs.ZipLemmas.{zip_more}
use Rattle.ffc_macaulay.proofs.solving.values_in.Goals as goal

pub returns-in_err-value-clause-units : goal.returns-in_err-value-clause-units
returns-in_err-value-clause-units g c =
    let n = length c.args.matrix.now.unknowns.keys in
    let i = c.loop-column.column-index in
    takes_later unit.Reduction (i * n) n (length c.args.columns.now * n) stops.Spent c.value_in.result c.from_residual.result c.args.meter.now c.loop-column.meter c.value_in.new.meter
    (turn_within i n (length c.args.columns.now) c.loop-column-test.true)
    (spent_part c.value_in.result c.from_residual.result c.in_err-value.field-0.0 stops.Spent c.in_err-value.was c.from_residual.ensures.1)
    c.loop-column.invariant.taken c.value_in.ensures.units

pub returns-in_default-clause-units : goal.returns-in_default-clause-units
returns-in_default-clause-units g c =
    let n = length c.args.matrix.now.unknowns.keys in
    let i = c.loop-column.column-index in
    takes_freely unit.Reduction (length c.args.columns.now * n) stops.Spent _ c.args.meter.now c.value_in.new.meter (not_spent _ stops.Spent)
    (taken_later unit.Reduction (i * n) n (length c.args.columns.now * n) c.args.meter.now c.loop-column.meter c.value_in.new.meter (turn_within i n (length c.args.columns.now) c.loop-column-test.true)
    c.loop-column.invariant.taken (taken_of unit.Reduction n stops.Spent c.value_in.result c.loop-column.meter c.value_in.new.meter c.value_in.ensures.units))

pub returns-in_err-push-clause-units : goal.returns-in_err-push-clause-units
returns-in_err-push-clause-units g c =
    let n = length c.args.matrix.now.unknowns.keys in
    let i = c.loop-column.column-index in
    takes_freely unit.Reduction (length c.args.columns.now * n) stops.Spent c.from_residual-in_err-push.result c.args.meter.now c.value_in.new.meter
    (λ e. memory_not_spent c.from_residual-in_err-push.result c.from_residual-in_err-push.ensures.1 e)
    (taken_later unit.Reduction (i * n) n (length c.args.columns.now * n) c.args.meter.now c.loop-column.meter c.value_in.new.meter (turn_within i n (length c.args.columns.now) c.loop-column-test.true)
    c.loop-column.invariant.taken (taken_of unit.Reduction n stops.Spent c.value_in.result c.loop-column.meter c.value_in.new.meter c.value_in.ensures.units))

pub loop-column-preserved : goal.loop-column-preserved
loop-column-preserved g c =
    let p = g.F.Field.ORDER in
    let n = length c.args.matrix.now.unknowns.keys in
    let i = c.loop-column.column-index in
    let R = IsValueIn p n c.args.matrix.now.multiples.items c.args.matrix.now.rows.items in
    record {
      values = subst (λ (vs : List Determined). AllZip R (take (i + 1) c.args.columns.now) vs) (sym c.in_ok-push.ensures.items)
          (zip_more R c.args.columns.now i c.loop-column.values.items 0 c.in-Some.value c.loop-column-test.true c.loop-column.invariant.values
          (subst (λ o. IfSome o (R (get_or c.args.columns.now i 0))) c.in-Some.is c.in_ok-value.ensures.some));
      taken = taken_later unit.Reduction (i * n) n ((i + 1) * n) c.args.meter.now c.loop-column.meter c.value_in.new.meter (omega arith)
          c.loop-column.invariant.taken (taken_of unit.Reduction n stops.Spent c.value_in.result c.loop-column.meter c.value_in.new.meter c.value_in.ensures.units);
    }
