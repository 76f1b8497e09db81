use Rattle.std.proofs.Common.{◌≡◌, ◌-◌, ◌<◌, ◌++◌, ◌∙◌, List, Some, get_or, length, map, take, drop, replicate, refl, sym, ap, ap₂, arith}
use Rattle.std.specs.Prelude.{slice_get}
use Rattle.std.proofs.lemmas.List.{length-map, length-set, length-replicate}
use Rattle.std.proofs.lemmas.Option.{slice_get_read}
use Rattle.ffc_field.specs.Modular.{add_mod, mul_mod, neg_mod}
use Rattle.ffc_echelon.specs.Forms.{Kept, Multiplier}
use Rattle.ffc_echelon.specs.Buffers.{raised, with_multiple}
use Rattle.ffc_echelon.proofs.Buffers.{length-with_multiple, value_read, written_back}
use Rattle.ffc_echelon.proofs.Combining.{combining_begins, combining_continues, combining_ends}
use Rattle.ffc_echelon.proofs.combination.combine.Goals as goal

pub loop-number-init : goal.loop-number-init
loop-number-init g c =
    let value = g.F.Field.value in
    let p = g.F.Field.ORDER in
    let rows : List Kept = c.args.rows.now in
    let n = length rows in
    let scale = value c.args.scale in
    let ms : List Multiplier = map (λ m. (m.0, value m.1)) c.args.multipliers.now in
    let cs = map value c.in_ok-coefficients.coefficients.items in
    let items = c.in_ok-weights.weights.items in
    let new = take c.in_ok-weights.weights.len (c.add_multiple.new.buffer ++ drop (length c.add_multiple.new.buffer) items) in
    let made : map value new ≡ with_multiple p scale ms (replicate n 0) =
    ap (map value) (written_back c.in_ok-weights.weights.len c.add_multiple.new.buffer items (c.add_multiple.auto.buffer ∙ c.as_mut_slice.ensures.len))
    ∙ c.add_multiple.ensures
    ∙ ap (with_multiple p scale ms) (ap (map value) c.as_mut_slice.ensures.value ∙ c.in_ok-weights.ensures) in
    record {
      coefficients = sym (length-map c.in_ok-coefficients.coefficients.items value) ∙ ap length c.in_ok-coefficients.ensures ∙ length-replicate c.args.inputs 0;
      weights = sym (length-map new value) ∙ ap length made ∙ length-with_multiple p scale ms (replicate n 0) ∙ length-replicate n 0;
      sum = λ vectors long kept there k. combining_begins p scale c.args.inputs vectors rows ms cs (map value new) k c.in_ok-coefficients.ensures made there;
    }

pub loop-number-preserved : goal.loop-number-preserved
loop-number-preserved g c =
    let value = g.F.Field.value in
    let p = g.F.Field.ORDER in
    let positive : 0 < p = omega (arith, g.met.F.Field.prime.least) in
    let known = c.loop-number.invariant in
    let rows : List Kept = c.args.rows.now in
    let number = c.loop-number.number in
    let r : Kept = c.index-rows-number.result in
    let items = c.loop-number.coefficients.items in
    let weights = c.loop-number.weights.items in
    let s = value c.mul-weight.result in
    let within : number - 1 < length rows = omega (arith, c.loop-number-test.true, c.loop-number.auto.number) in
    let at : slice_get rows (number - 1) ≡ Some r = slice_get_read rows (length rows) (number - 1) r refl within c.index-rows-number.is in
    let scale : value c.row.inside.scale ≡ r.scale = ap (λ q. q.scale) c.row.view_is in
    let input : c.row.inside.input ≡ r.input = ap (λ q. q.input) c.row.view_is in
    let multipliers : map (λ m. (m.0, value m.1)) c.row.inside.multipliers.items ≡ r.multipliers = ap (λ q. q.multipliers) c.row.view_is in
    let is : s ≡ mul_mod p (get_or (map value weights) (number - 1) 0) r.scale =
    c.mul-weight.ensures
    ∙ ap₂ (mul_mod p) (sym (value_read value weights (number - 1) c.index.result.now (omega (arith, within, known.weights)) c.index.ensures)) scale in
    let new_items = take c.loop-number.coefficients.len (c.add_at.new.buffer ++ drop (length c.add_at.new.buffer) items) in
    let new_weights = take c.loop-number.weights.len (c.add_multiple-in-loop-number.new.buffer ++ drop (length c.add_multiple-in-loop-number.new.buffer) weights) in
    let raises : map value new_items ≡ raised p (map value items) r.input s =
    ap (map value) (written_back c.loop-number.coefficients.len c.add_at.new.buffer items (c.add_at.auto.buffer ∙ c.as_mut_slice-in-loop-number.ensures.len))
    ∙ c.add_at.ensures
    ∙ ap₂ (λ l i. raised p (map value l) i s) c.as_mut_slice-in-loop-number.ensures.value input in
    let moves : map value new_weights ≡ with_multiple p (neg_mod p s) r.multipliers (map value weights) =
    ap (map value) (written_back c.loop-number.weights.len c.add_multiple-in-loop-number.new.buffer weights (c.add_multiple-in-loop-number.auto.buffer ∙ c.as_mut_slice-in-loop-number-2.ensures.len))
    ∙ c.add_multiple-in-loop-number.ensures
    ∙ ap₂ (λ t v. with_multiple p t v (map value c.as_mut_slice-in-loop-number-2.result.now)) c.neg.ensures (ap (map (λ m. (m.0, value m.1))) c.as_slice.ensures.value ∙ multipliers)
    ∙ ap (λ l. with_multiple p (neg_mod p s) r.multipliers (map value l)) c.as_mut_slice-in-loop-number-2.ensures.value in
    record {
      coefficients =
          sym (length-map new_items value) ∙ ap length raises ∙ length-set (map value items) r.input (add_mod p (get_or (map value items) r.input 0) s)
          ∙ length-map items value ∙ known.coefficients;
      weights =
          sym (length-map new_weights value) ∙ ap length moves ∙ length-with_multiple p (neg_mod p s) r.multipliers (map value weights)
          ∙ length-map weights value ∙ known.weights;
      sum = λ vectors long kept there k.
          combining_continues p vectors rows (map value items) (map value weights) (map value new_items) (map value new_weights) number s k r positive
          c.loop-number-test.true at (kept (number - 1) r at)
          (length-map items value ∙ known.coefficients ∙ sym long) (length-map weights value ∙ known.weights) is raises moves
          ∙ known.sum vectors long kept there k;
    }

pub returns : goal.returns
returns g c = λ vectors long kept there.
    let value = g.F.Field.value in
    let p = g.F.Field.ORDER in
    let known = c.loop-number.invariant in
    let rows : List Kept = c.args.rows.now in
    let ms : List Multiplier = map (λ m. (m.0, value m.1)) c.args.multipliers.now in
    let last : c.loop-number.number ≡ 0 = omega (arith, c.loop-number-test.false) in
    record {
      long = length-map c.loop-number.coefficients.items value ∙ known.coefficients ∙ sym long;
      sum = λ k. combining_ends p (value c.args.scale) c.loop-number.number vectors rows ms (map value c.loop-number.coefficients.items) (map value c.loop-number.weights.items) k last
          (known.sum vectors long kept there k);
    }
