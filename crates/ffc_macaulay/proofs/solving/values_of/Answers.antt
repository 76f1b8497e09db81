use Rattle.std.proofs.Common.{ℕ, List, ◌*◌, ◌<◌, ◌≤◌, All, length, inr, sym, subst, arith}
use Rattle.std.specs.Prelude.{IfSome}
use Rattle.std.specs.List.{AllZip}
use Rattle.std.proofs.lemmas.Result.{IfOk-weaker}
use Rattle.std.proofs.Math.Nat.{mul-le-mul_right}
use Rattle.ffc_base.specs.declared.meter.Unit.TheVariants as unit
use Rattle.ffc_base.specs.declared.stop.Stop.TheVariants as stops
use Rattle.ffc_echelon.proofs.TrialLemmas.{none_taken, takes_later}
use Rattle.ffc_macaulay.specs.Solving.{IsLed, IsValueIn, IsValueOf}
use Rattle.ffc_macaulay.proofs.ConstantLemmas.{few_led}
use Rattle.ffc_macaulay.proofs.ZipLemmas.{none_weaker, some_weaker, zip_left_of, zip_right, zip_through}
use Rattle.ffc_macaulay.proofs.solving.values_of.Goals as goal

pub values_in-requires-clause-inside : goal.values_in-requires-clause-inside
values_in-requires-clause-inside g c =
    let keys = c.args.matrix.now.unknowns.keys in
    let kept = c.args.form.now.kept in
    let xs = c.args.variables.now in
    let led = subst (λ o. IfSome o (λ columns. AllZip (IsLed keys kept) xs columns.items)) c.in-Some.is c.in_ok-columns.ensures.some in
    subst (All (λ k. k < length keys)) (sym c.as_slice.ensures.value) (zip_right (IsLed keys kept) (λ k. k < length keys) (λ x k is. is.column.inside) xs c.in-Some.columns.items led)

pub returns-in-Some-clause-some : goal.returns-in-Some-clause-some
returns-in-Some-clause-some g c =
    let p = g.F.Field.ORDER in
    let keys = c.args.matrix.now.unknowns.keys in
    let ms = c.args.matrix.now.multiples.items in
    let vs = c.args.matrix.now.rows.items in
    let kept = c.args.form.now.kept in
    let xs = c.args.variables.now in
    let columns = c.as_slice.result.now in
    let led = subst (λ o. IfSome o (λ columns. AllZip (IsLed keys kept) xs columns.items)) c.in-Some.is c.in_ok-columns.ensures.some in
    let here : AllZip (IsLed keys kept) xs columns = subst (λ (cs : List ℕ). AllZip (IsLed keys kept) xs cs) (sym c.as_slice.ensures.value) led in
    IfOk-weaker c.values_in.result _ _ (λ found values. some_weaker _ _ found
    (λ all are. zip_through (IsLed keys kept) (IsValueIn p (length keys) ms vs) (IsValueOf p keys ms vs) (λ x k v one two. record { column = k; is = one.column; value = two }) xs columns all.items here are) values) c.values_in.ensures.some

pub returns-in-Some-clause-none : goal.returns-in-Some-clause-none
returns-in-Some-clause-none g c =
    let p = g.F.Field.ORDER in
    let keys = c.args.matrix.now.unknowns.keys in
    let kept = c.args.form.now.kept in
    let xs = c.args.variables.now in
    let columns = c.as_slice.result.now in
    let led = subst (λ o. IfSome o (λ columns. AllZip (IsLed keys kept) xs columns.items)) c.in-Some.is c.in_ok-columns.ensures.some in
    let here : AllZip (IsLed keys kept) xs columns = subst (λ (cs : List ℕ). AllZip (IsLed keys kept) xs cs) (sym c.as_slice.ensures.value) led in
    IfOk-weaker c.values_in.result _ _ (λ found none. none_weaker _ _ found
    (λ left.
    let of = zip_left_of (IsLed keys kept) xs columns left.0 here left.1 in
    record { variable = of.0; among = of.1; column = left.0; is = of.2.column; cause = inr left.2 }) none) c.values_in.ensures.none

pub returns-in-Some-clause-units : goal.returns-in-Some-clause-units
returns-in-Some-clause-units g c =
    let keys = c.args.matrix.now.unknowns.keys in
    let kept = c.args.form.now.kept in
    let xs = c.args.variables.now in
    let n = length keys in
    let columns = c.as_slice.result.now in
    let m = length c.args.matrix.now.rows.items in
    let led = subst (λ o. IfSome o (λ columns. AllZip (IsLed keys kept) xs columns.items)) c.in-Some.is c.in_ok-columns.ensures.some in
    let here : AllZip (IsLed keys kept) xs columns = subst (λ (cs : List ℕ). AllZip (IsLed keys kept) xs cs) (sym c.as_slice.ensures.value) led in
    let few = few_led keys kept xs columns c.requires.rises here in
    let within : length columns * n ≤ m * n = mul-le-mul_right n (let e : length columns ≤ m = omega (arith, few, c.requires.form.few) in e) in
    takes_later unit.Reduction 0 (length columns * n) (m * n) stops.Spent c.values_in.result c.values_in.result c.args.meter.now c.args.meter.now c.values_in.new.meter (omega (arith, within)) (λ e. e)
    (none_taken unit.Reduction 0 c.args.meter.now) c.values_in.ensures.units
