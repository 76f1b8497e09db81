use Rattle.std.proofs.Common.{◌≡◌, ◌<◌, ◌≤◌, ◌++◌, ◌%◌, [], ◌∷◌, length, map, take, sym, ap, ap₂, ◌∙◌, arith, mod-eq_of_lt, le_of_lt}
use Rattle.std.proofs.lemmas.List.{drop_all, take_all}
use Rattle.ffc_field.specs.Modular.{add_mod, sub_mod, mul_mod}
use Rattle.ffc_uni.specs.Univariate.{coefficient_at}
use Rattle.ffc_uni.proofs.Passes.{negated_scaled, root_row, SameUnivariate-root_row}
use Rattle.ffc_uni.proofs.Rows.{left_at, written_at, unwritten_behind}
use Rattle.ffc_uni.proofs.row.times_root.Goals as goal

pub loop-place-init : goal.loop-place-init
loop-place-init g c =
    let value = g.F.Field.value in
    let p = g.F.Field.ORDER in
    ap (λ k. root_row p (value c.args.root) k (map value c.args.out.now)) (c.of-below.ensures ∙ mod-eq_of_lt (omega (arith, g.met.F.Field.prime.least)))

pub loop-place-preserved : goal.loop-place-preserved
loop-place-preserved g c =
    let value = g.F.Field.value in
    let p = g.F.Field.ORDER in
    let a = value c.args.root in
    let out = c.loop-place.out in
    let place = c.loop-place.place in
    let below = value c.loop-place.below in
    let y = c.index-out-place.result in
    let within : place < length out = omega arith in
    let left = left_at out place y within c.index-out-place.is in
    written_at value out place c.add_scaled.result (sub_mod p below (mul_mod p a (value y))) _ within
    (c.add_scaled.ensures ∙ ap (λ s. add_mod p below (mul_mod p s (value y))) c.neg-scale.ensures
    ∙ negated_scaled p a (value y) below (omega (arith, g.met.F.Field.prime.least)) (le_of_lt (g.met.F.Field.below c.args.root)))
    ∙ ap (λ l. map value (take place out) ++ (sub_mod p below (mul_mod p a (value y)) ∷ root_row p a (value y) (map value l))) (unwritten_behind out place c.add_scaled.result)
    ∙ ap (λ l. map value (take place out) ++ root_row p a below (map value l)) (sym left)
    ∙ c.loop-place.invariant

pub returns : goal.returns
returns g c =
    let value = g.F.Field.value in
    let p = g.F.Field.ORDER in
    let a = value c.args.root in
    let out = c.loop-place.out in
    let place = c.loop-place.place in
    let ended : length out ≤ place = omega arith in
    let done : map value out ++ value c.loop-place.below ∷ [] ≡ root_row p a 0 (map value c.args.out.now) =
    ap₂ (λ l m. map value l ++ root_row p a (value c.loop-place.below) (map value m)) (sym (take_all place out ended)) (sym (drop_all place out ended))
    ∙ c.loop-place.invariant in
    λ j. ap (λ l. coefficient_at l j % p) done
    ∙ SameUnivariate-root_row p a (map value c.args.out.now) (omega (arith, g.met.F.Field.prime.least)) (le_of_lt (g.met.F.Field.below c.args.root)) j
