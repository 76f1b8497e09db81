use Rattle.std.proofs.Common.{◌≡◌, ◌+◌, ◌-◌, ◌<◌, ℕ, suc, List, Option, Some, None, Ok, slice_get, length, map, drop, get_or, count_by, is_some, refl, sym, ap, ap₂, ◌∙◌, subst, subst₂, arith, mod-eq_of_lt}
use Rattle.std.proofs.lemmas.List.{length-map, get_or-set_other}
use Rattle.std.proofs.lemmas.Option.{slice_get-get_or}
use Rattle.ffc_base.specs.declared.meter.Unit.TheVariants as unit
use Rattle.ffc_base.specs.declared.stop.Stop.TheVariants as stops
use Rattle.ffc_field.specs.Modular.{mul_mod}
use Rattle.ffc_echelon.specs.Vectors.{Coordinates, AreCoordinates, IsBelow, coordinate, dot}
use Rattle.ffc_echelon.specs.Forms.{Kept}
use Rattle.ffc_echelon.specs.Placing.{IsRootIn}
use Rattle.ffc_echelon.proofs.PlacingLemmas.{AreZeros, no_zeros_yet, rows_inside, row_inside, leading_row, leading_within, zeros_none, zeros_placed, zeros_all, reduced_kept, leading_more, leading_same, placed_is, none_since}
use Rattle.ffc_echelon.proofs.TrialLemmas.{IsTaken, none_taken, taken_more, one_more_taken, takes_all, takes_freely, refused, full_still, not_spent}
use Rattle.ffc_echelon.proofs.solution.place_leading_unknowns.Goals as goal

lead_at : (leads : List (Option ℕ)) (k i : ℕ) → k < length leads → get_or leads k None ≡ Some i → slice_get leads k ≡ Some (Some i)
lead_at leads k i inside is = slice_get-get_or leads k None inside ∙ ap Some is

pub loop-column-init : goal.loop-column-init
loop-column-init g c =
    let value = g.F.Field.value in
    record {
      zeros = no_zeros_yet g.F.Field.ORDER (length c.args.leads.now) c.args.rows.now c.args.leads.now c.requires.leads (map value c.args.point.now) (length c.args.leads.now)
          (λ j k r at leads. rows_inside (length c.args.leads.now) j k c.args.rows.now r c.requires.leading at leads);
      kept = λ v valid reduced. refl;
      one = refl;
      taken = none_taken unit.Trial (count_by is_some (drop (length c.args.leads.now) c.args.leads.now)) c.args.meter.now;
    }

pub returns-in_err-take-clause-units : goal.returns-in_err-take-clause-units
returns-in_err-take-clause-units g c =
    let leads = c.args.leads.now in
    let k = c.loop-column.column in
    let before = count_by is_some (drop k leads) in
    let lead = lead_at leads (k - 1) c.in-Some.number (omega arith) c.in-Some.is in
    let more = leading_more leads k c.in-Some.number (omega arith) (omega arith) lead in
    let all = leading_within leads (k - 1) in
    takes_all unit.Trial before (count_by is_some leads) stops.Spent c.from_residual.result c.args.meter.now c.take.new.self (omega arith)
    (refused unit.Trial before c.args.meter.now c.loop-column.meter c.take.new.self c.loop-column.invariant.taken c.in_err-take.ensures.kept)
    (full_still c.loop-column.meter c.take.new.self c.in_err-take.ensures.kept (c.in_err-take.ensures.spent.0 refl))

pub offset_bounds-rows-number : goal.offset_bounds-rows-number
offset_bounds-rows-number g c =
    let k = c.loop-column.column in
    let inside = row_inside (length c.args.leads.now) (k - 1) c.in-Some.number c.args.rows.now c.args.leads.now c.requires.leads (lead_at c.args.leads.now (k - 1) c.in-Some.number (omega arith) c.in-Some.is) in
    omega arith

pub bounds-rows-number : goal.bounds-rows-number
bounds-rows-number g c =
    let k = c.loop-column.column in
    row_inside (length c.args.leads.now) (k - 1) c.in-Some.number c.args.rows.now c.args.leads.now c.requires.leads (lead_at c.args.leads.now (k - 1) c.in-Some.number (omega arith) c.in-Some.is)

pub root_in-root-requires-clause-within : goal.root_in-root-requires-clause-within
root_in-root-requires-clause-within g c =
    let n = length c.args.leads.now in
    let k = c.loop-column.column in
    let lead = lead_at c.args.leads.now (k - 1) c.in-Some.number (omega arith) c.in-Some.is in
    let row = leading_row n (k - 1) c.in-Some.number c.args.rows.now c.args.leads.now c.index-rows-number.result c.requires.leading c.requires.leads lead c.index-rows-number.is in
    let long : n + 1 ≡ length c.loop-column.point = (let kept = c.loop-column.auto.point in omega (arith, c.requires.long)) in
    subst₂ IsBelow long (sym (ap (λ (r : Kept). r.coordinates) c.row.view_is)) row.below

pub root_in-root-requires-clause-inverse : goal.root_in-root-requires-clause-inverse
root_in-root-requires-clause-inverse g c =
    let p = g.F.Field.ORDER in
    let n = length c.args.leads.now in
    let k = c.loop-column.column in
    let lead = lead_at c.args.leads.now (k - 1) c.in-Some.number (omega arith) c.in-Some.is in
    let row = leading_row n (k - 1) c.in-Some.number c.args.rows.now c.args.leads.now c.index-rows-number.result c.requires.leading c.requires.leads lead c.index-rows-number.is in
    let one : 1 < p = omega (arith, g.met.F.Field.prime.least) in
    let coefficient : coordinate c.row.inside.vector (k - 1) ≡ 1 = ap (λ (r : Kept). coordinate r.coordinates (k - 1)) c.row.view_is ∙ row.one in
    let inverse : g.F.Field.value c.of.result ≡ 1 = c.of.ensures ∙ mod-eq_of_lt one in
    ap₂ (mul_mod p) coefficient inverse ∙ mod-eq_of_lt one

pub loop-column-preserved-in-Some : goal.loop-column-preserved-in-Some
loop-column-preserved-in-Some g c =
    let value = g.F.Field.value in
    let p = g.F.Field.ORDER in
    let leads = c.args.leads.now in
    let rows = c.args.rows.now in
    let n = length leads in
    let k = c.loop-column.column in
    let i = c.in-Some.number in
    let next : k ≡ suc (k - 1) = omega arith in
    let old = map value c.loop-column.point in
    let y = value c.root_in-root.result in
    let lead = lead_at leads (k - 1) i (omega arith) c.in-Some.is in
    let row = leading_row n (k - 1) i rows leads c.index-rows-number.result c.requires.leading c.requires.leads lead c.index-rows-number.is in
    let vector = ap (λ (r : Kept). r.coordinates) c.row.view_is in
    let inside : k - 1 < length old = (let kept = c.loop-column.auto.point in omega (arith, c.requires.long, length-map c.loop-column.point value)) in
    let placed = placed_is value (k - 1) y c.root_in-root.result c.loop-column.point refl in
    record {
      zeros =
          subst (λ (q : List ℕ). AreZeros p q rows (k - 1)) placed
          (zeros_placed p n rows leads c.requires.leads (k - 1) i y c.index-rows-number.result old lead row.at inside
          (subst (AreCoordinates p) vector c.root_in-root.ensures.valid)
          (subst (λ (v : Coordinates). IsRootIn p old v (k - 1) y) vector c.root_in-root.ensures.root)
          (subst (AreZeros p old rows) next c.loop-column.invariant.zeros));
      kept = λ v valid reduced.
          ap (λ (q : List ℕ). dot p q v) (sym placed)
          ∙ reduced_kept p n rows leads c.requires.leads (k - 1) i y old v lead inside valid reduced
          ∙ c.loop-column.invariant.kept v valid reduced;
      one =
          ap (λ (q : List ℕ). get_or q n 0) (sym placed)
          ∙ get_or-set_other old (k - 1) n y 0 (omega arith)
          ∙ c.loop-column.invariant.one;
      taken =
          subst (λ b. IsTaken unit.Trial b c.args.meter.now c.take.new.self) (sym (leading_more leads k i (omega arith) (omega arith) lead))
          (one_more_taken unit.Trial (count_by is_some (drop k leads)) c.args.meter.now c.loop-column.meter c.take.new.self c.loop-column.invariant.taken c.in_ok-take.ensures.taken);
    }

pub loop-column-preserved : goal.loop-column-preserved
loop-column-preserved g c =
    let value = g.F.Field.value in
    let p = g.F.Field.ORDER in
    let leads = c.args.leads.now in
    let rows = c.args.rows.now in
    let n = length leads in
    let k = c.loop-column.column in
    let next : k ≡ suc (k - 1) = omega arith in
    let old = map value c.loop-column.point in
    let none : slice_get leads (k - 1) ≡ Some None = slice_get-get_or leads (k - 1) None (omega arith) ∙ ap Some (none_since (get_or leads (k - 1) None) c.in_default.not-Some) in
    record {
      zeros = zeros_none p n rows leads c.requires.leads (k - 1) old none (subst (AreZeros p old rows) next c.loop-column.invariant.zeros);
      kept = c.loop-column.invariant.kept;
      one = c.loop-column.invariant.one;
      taken = subst (λ b. IsTaken unit.Trial b c.args.meter.now c.loop-column.meter) (sym (leading_same leads k (omega arith) (omega arith) none)) c.loop-column.invariant.taken;
    }

pub returns-clause-zeros : goal.returns-clause-zeros
returns-clause-zeros g c =
    let point = map g.F.Field.value c.loop-column.point in
    let ended : c.loop-column.column ≡ 0 = omega arith in
    zeros_all g.F.Field.ORDER (length c.args.leads.now) point c.args.rows.now c.requires.leading (subst (AreZeros g.F.Field.ORDER point c.args.rows.now) ended c.loop-column.invariant.zeros)

pub returns-clause-units : goal.returns-clause-units
returns-clause-units g c =
    let leads = c.args.leads.now in
    takes_freely unit.Trial (count_by is_some leads) stops.Spent (Ok tt) c.args.meter.now c.loop-column.meter (not_spent tt stops.Spent)
    (taken_more unit.Trial (count_by is_some (drop c.loop-column.column leads)) (count_by is_some leads) c.args.meter.now c.loop-column.meter (leading_within leads c.loop-column.column) c.loop-column.invariant.taken)
