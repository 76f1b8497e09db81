use Rattle.std.proofs.Common.{◌≡◌, ◌+◌, ◌∷◌, ◌++◌, [], Some, None, get_or, length, map, take, drop, refl, sym, ap, ap₂, ◌∙◌, subst, arith}
use Rattle.std.specs.Prelude.{slice_get}
use Rattle.std.proofs.lemmas.List.{length-map, map_push}
use Rattle.std.proofs.lemmas.Option.{same_Some, slice_get-get_or, slice_get_read, slice_get_within}
use Rattle.std.proofs.lemmas.Result.{err_from_is_err_and}
use Rattle.ffc_base.specs.Metering.{total}
use Rattle.ffc_field.specs.Modular.{neg_mod}
use Rattle.ffc_echelon.specs.Vectors.{Coordinates, AreCoordinates, IsBelow, coordinate}
use Rattle.ffc_echelon.specs.Forms.{Kept, LeadsBelow, leading_column}
use Rattle.ffc_echelon.specs.Buffers.{with_multiple, nonzero_from}
use Rattle.ffc_echelon.proofs.Buffers.{below-nonzero_from, coordinate-nonzero, coordinates-nonzero_from, length-with_multiple, residue_below, residues_below, value_read, written_back}
use Rattle.ffc_echelon.proofs.Combining.{held}
use Rattle.ffc_echelon.proofs.Reducing.{IsReducedBelow, column_passed, column_cleared, rest_is_reduced, rest_of_reduction}
use Rattle.ffc_echelon.proofs.UnitLemmas.{budget_more, more_one, total_more}
use Rattle.ffc_echelon.proofs.reduction.reduce_by.Goals as goal

pub loop-column-preserved-then-residue-eq0 : goal.loop-column-preserved-then-residue-eq0
loop-column-preserved-then-residue-eq0 g c =
    let value = g.F.Field.value in
    let known = c.loop-column.invariant in
    let items = c.loop-column.buffer.items in
    let column = c.loop-column.column in
    let none : get_or (map value items) column 0 ≡ 0 =
    value_read value items column c.index-coordinate.result.now (omega (arith, known.long, c.loop-column-test.true)) c.index-coordinate.ensures
    ∙ sym c.residue.ensures.value ∙ c.if-residue-eq0.true in
    record {
      long = known.long;
      reduced = column_passed g.F.Field.ORDER c.args.rows.now c.args.vector.now column (map value items) (map (λ m. (m.0, value m.1)) c.loop-column.multipliers.items)
          (λ j r at leads. none) known.reduced;
      units = (known.units.0, omega (arith, known.units.1), known.units.2);
    }

pub loop-column-preserved-in_default : goal.loop-column-preserved-in_default
loop-column-preserved-in_default g c =
    let value = g.F.Field.value in
    let known = c.loop-column.invariant in
    let items = c.loop-column.buffer.items in
    let column = c.loop-column.column in
    let leads = c.args.leads.now in
    record {
      long = known.long;
      reduced = column_passed g.F.Field.ORDER c.args.rows.now c.args.vector.now column (map value items) (map (λ m. (m.0, value m.1)) c.loop-column.multipliers.items)
          (λ j r at leading. absurd (c.in_default.not-Some j
          (same_Some (get_or leads column None) (Some j) (sym (slice_get-get_or leads column None c.loop-column-test.true) ∙ c.requires.leads.lead j column r at leading))))
          known.reduced;
      units = (known.units.0, omega (arith, known.units.1), known.units.2);
    }

pub bounds-rows-number : goal.bounds-rows-number
bounds-rows-number g c =
    let leads = c.args.leads.now in
    let column = c.loop-column.column in
    let found = c.requires.leads.row column c.in-Some.number (slice_get-get_or leads column None c.loop-column-test.true ∙ ap Some c.in-Some.is) in
    slice_get_within c.args.rows.now c.in-Some.number found.0 found.1

pub offset_bounds-rows-number : goal.offset_bounds-rows-number
offset_bounds-rows-number g c =
    let leads = c.args.leads.now in
    let column = c.loop-column.column in
    let found = c.requires.leads.row column c.in-Some.number (slice_get-get_or leads column None c.loop-column-test.true ∙ ap Some c.in-Some.is) in
    omega (arith, slice_get_within c.args.rows.now c.in-Some.number found.0 found.1)

pub loop-column-preserved : goal.loop-column-preserved
loop-column-preserved g c =
    let value = g.F.Field.value in
    let p = g.F.Field.ORDER in
    let known = c.loop-column.invariant in
    let items = c.loop-column.buffer.items in
    let column = c.loop-column.column in
    let leads = c.args.leads.now in
    let rows = c.args.rows.now in
    let n = length leads in
    let number = c.in-Some.number in
    let found = c.requires.leads.row column number (slice_get-get_or leads column None c.loop-column-test.true ∙ ap Some c.in-Some.is) in
    let r : Kept = c.index-rows-number.result in
    let at : slice_get rows number ≡ Some r =
    slice_get_read rows (length rows) number r refl (slice_get_within rows number found.0 found.1) c.index-rows-number.is in
    let leading : leading_column r.coordinates ≡ Some column = ap (λ q. leading_column q.coordinates) (same_Some r found.0 (sym at ∙ found.1)) ∙ found.2 in
    let vector : Coordinates = c.row.inside.vector in
    let same : vector ≡ r.coordinates = ap (λ q. q.coordinates) c.row.view_is in
    let x = value c.index-coordinate.result.now in
    let old = map value items in
    let long : length old ≡ n + 1 = length-map items value ∙ known.long in
    let new = take c.loop-column.buffer.len (c.add_multiple.new.buffer ++ drop (length c.add_multiple.new.buffer) items) in
    let made : map value new ≡ with_multiple p (neg_mod p x) r.coordinates old =
    ap (map value) (written_back c.loop-column.buffer.len c.add_multiple.new.buffer items (c.add_multiple.auto.buffer ∙ c.as_mut_slice.ensures.len))
    ∙ c.add_multiple.ensures
    ∙ ap₂ (λ s v. with_multiple p s v (map value c.as_mut_slice.result.now)) c.neg.ensures (c.coordinates.ensures.value ∙ same)
    ∙ ap (λ l. with_multiple p (neg_mod p x) r.coordinates (map value l)) c.as_mut_slice.ensures.value in
    let ms = map (λ m. (m.0, value m.1)) c.loop-column.multipliers.items in
    let pushed : map (λ m. (m.0, value m.1)) c.push.new.self.items ≡ ms ++ (number, x) ∷ [] =
    ap (map (λ m. (m.0, value m.1))) c.in_ok-push.ensures.items
    ∙ map_push (λ m. (m.0, value m.1)) c.loop-column.multipliers.items (number, c.index-coordinate.result.now) in
    let cleared = column_cleared p n rows c.args.vector.now column number x r old ms (omega (arith, g.met.F.Field.prime.least))
    (λ k. residue_below value p g.met.F.Field.below items k (omega (arith, g.met.F.Field.prime.least)))
    at leading (held (λ q. LeadsBelow n q.coordinates) rows number r c.requires.leading.each at)
    (subst (AreCoordinates p) same c.coordinates.ensures.valid)
    (subst (λ m. IsBelow m r.coordinates) (sym long) (held (λ q. IsBelow (n + 1) q.coordinates) rows number r c.requires.leading.within at))
    (sym (value_read value items column c.index-coordinate.result.now (omega (arith, known.long, c.loop-column-test.true)) c.index-coordinate.ensures))
    known.reduced in
    record {
      long = sym (length-map new value) ∙ ap length made ∙ length-with_multiple p (neg_mod p x) r.coordinates old ∙ long;
      reduced = subst (λ l. IsReducedBelow p rows c.args.vector.now (column + 1) l (map (λ m. (m.0, value m.1)) c.push.new.self.items)) (sym made)
          (subst (IsReducedBelow p rows c.args.vector.now (column + 1) (with_multiple p (neg_mod p x) r.coordinates old)) (sym pushed) cleared);
      units = (known.units.0 + 1, omega (arith, known.units.1), more_one c.args.meter.now c.loop-column.meter c.take.new.self known.units.0 known.units.2 c.in_ok-take.ensures.taken);
    }

pub returns-in_err-take-clause-units : goal.returns-in_err-take-clause-units
returns-in_err-take-clause-units g c =
    let known = c.loop-column.invariant in
    let a = c.args.meter.now in
    let b = c.loop-column.meter in
    let full : total b ≡ b.budget = c.in_err-take.ensures.spent.0 refl in
    record {
      units = known.units.0;
      taken = c.in_err-take.ensures.kept ∙ known.units.2;
      within = omega (arith, known.units.1, c.loop-column-test.true);
      spent_only = λ spent. omega (arith, full, known.units.1, c.loop-column-test.true, total_more a b known.units.0 known.units.2, budget_more a b known.units.0 known.units.2);
    }

pub returns-in_err-push-clause-units : goal.returns-in_err-push-clause-units
returns-in_err-push-clause-units g c =
    let known = c.loop-column.invariant in
    let why = err_from_is_err_and c.from_residual-in_err-push.result c.from_residual-in_err-push.ensures.1 in
    record {
      units = known.units.0 + 1;
      taken = more_one c.args.meter.now c.loop-column.meter c.take.new.self known.units.0 known.units.2 c.in_ok-take.ensures.taken;
      within = omega (arith, known.units.1, c.loop-column-test.true);
      spent_only = λ spent. cc (why.1, why.2);
    }

pub from_coordinates-requires : goal.from_coordinates-requires
from_coordinates-requires g c =
    let value = g.F.Field.value in
    let p = g.F.Field.ORDER in
    let items = c.loop-column.buffer.items in
    let below = residues_below value p g.met.F.Field.below items in
    subst (AreCoordinates p) (sym (c.in_ok-nonzero.ensures ∙ ap (λ l. nonzero_from 0 (map value l)) c.as_slice.ensures.value))
    (coordinates-nonzero_from p 0 (map value items) below)

pub returns-clause-rest : goal.returns-clause-rest
returns-clause-rest g c =
    let value = g.F.Field.value in
    let p = g.F.Field.ORDER in
    let items = c.loop-column.buffer.items in
    let below = residues_below value p g.met.F.Field.below items in
    let made : c.from_coordinates.result ≡ nonzero_from 0 (map value items) =
    c.from_coordinates.ensures ∙ c.in_ok-nonzero.ensures ∙ ap (λ l. nonzero_from 0 (map value l)) c.as_slice.ensures.value in
    rest_of_reduction p c.args.rows.now c.args.vector.now c.from_coordinates.result c.loop-column.column (map value items) (map (λ m. (m.0, value m.1)) c.loop-column.multipliers.items)
    (λ k. ap (λ v. coordinate v k) made ∙ coordinate-nonzero p (map value items) k below)
    c.loop-column.invariant.reduced

pub returns-clause-reduced : goal.returns-clause-reduced
returns-clause-reduced g c =
    let value = g.F.Field.value in
    let p = g.F.Field.ORDER in
    let items = c.loop-column.buffer.items in
    let below = residues_below value p g.met.F.Field.below items in
    let made : c.from_coordinates.result ≡ nonzero_from 0 (map value items) =
    c.from_coordinates.ensures ∙ c.in_ok-nonzero.ensures ∙ ap (λ l. nonzero_from 0 (map value l)) c.as_slice.ensures.value in
    rest_is_reduced p (length c.args.leads.now) c.args.rows.now c.args.vector.now c.from_coordinates.result c.loop-column.column (map value items) (map (λ m. (m.0, value m.1)) c.loop-column.multipliers.items)
    c.requires.leading c.loop-column-test.false
    (λ k. ap (λ v. coordinate v k) made ∙ coordinate-nonzero p (map value items) k below)
    c.loop-column.invariant.reduced

pub returns-clause-below : goal.returns-clause-below
returns-clause-below g c =
    let value = g.F.Field.value in
    let items = c.loop-column.buffer.items in
    let made : c.from_coordinates.result ≡ nonzero_from 0 (map value items) =
    c.from_coordinates.ensures ∙ c.in_ok-nonzero.ensures ∙ ap (λ l. nonzero_from 0 (map value l)) c.as_slice.ensures.value in
    subst (IsBelow (length c.args.leads.now + 1)) (sym made)
    (below-nonzero_from (length c.args.leads.now + 1) 0 (map value items) (omega (arith, length-map items value, c.loop-column.invariant.long)))
