use Rattle.std.proofs.Common.{◌≡◌, ◌+◌, ◌<◌, ◌++◌, ◌∷◌, ◌%◌, length, map, take, drop, sym, ap, ap₂, ◌∙◌, arith}
use Rattle.std.proofs.lemmas.List.{drop_all}
use Rattle.ffc_field.specs.Modular.{add_mod, mul_mod}
use Rattle.ffc_uni.specs.Univariate.{coefficient_at}
use Rattle.ffc_uni.proofs.Passes.{with_multiple, SameUnivariate-with_multiple}
use Rattle.ffc_uni.proofs.Rows.{left_at, written_at, unwritten_behind, length-residues, all_written}
use Rattle.ffc_cktree.proofs.rows.add_multiple.Goals as goal

pub loop-place-preserved : goal.loop-place-preserved
loop-place-preserved g c =
    let value = g.F.Field.value in
    let p = g.F.Field.ORDER in
    let k = value c.args.c in
    let row = c.args.row.now in
    let out = c.loop-place.out in
    let place = c.loop-place.place in
    let y = c.index-out-place.result in
    let r = c.index-row-place.result in
    let within : place < length out = omega arith in
    let row_left = left_at row place r c.loop-place-test.true c.index-row-place.is in
    let out_left = left_at out place y within c.index-out-place.is in
    written_at value out place c.add.result (add_mod p (value y) (mul_mod p k (value r))) _ within
    (c.add.ensures ∙ ap (add_mod p (value y)) c.mul.ensures)
    ∙ ap (λ l. map value (take place out) ++ (add_mod p (value y) (mul_mod p k (value r)) ∷ with_multiple p k (map value (drop (place + 1) row)) (map value l))) (unwritten_behind out place c.add.result)
    ∙ ap₂ (λ l m. map value (take place out) ++ with_multiple p k (map value l) (map value m)) (sym row_left) (sym out_left)
    ∙ c.loop-place.invariant

pub returns : goal.returns
returns g c =
    let value = g.F.Field.value in
    let p = g.F.Field.ORDER in
    let k = value c.args.c in
    let row = c.args.row.now in
    let out = c.loop-place.out in
    let place = c.loop-place.place in
    let done : map value out ≡ with_multiple p k (map value row) (map value c.args.out.now) =
    sym (all_written value out place)
    ∙ ap (λ l. map value (take place out) ++ with_multiple p k (map value l) (map value (drop place out))) (sym (drop_all place row c.loop-place-test.false))
    ∙ c.loop-place.invariant in
    λ j. ap (λ l. coefficient_at l j % p) done
    ∙ SameUnivariate-with_multiple p k (map value row) (map value c.args.out.now) (omega (arith, length-residues value row, length-residues value c.args.out.now)) j
