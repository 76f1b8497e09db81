use Rattle.std.proofs.Common.{◌≡◌, ◌+◌, [], ◌∷◌, ◌++◌, length, map, get_or, ap, ◌∙◌, subst, arith, length-append}
use Rattle.std.proofs.lemmas.List.{length-map, length-replicate}
use Rattle.ffc_echelon.proofs.Buffers.{get_or-zeros, written_back}
use Rattle.ffc_echelon.specs.Vectors.{IsBelow}
use Rattle.ffc_macaulay.proofs.WeightLemmas.{row_made}
use Rattle.ffc_macaulay.proofs.matrix.row.Goals as goal

pub returns : goal.returns
returns g c =
    let value = g.F.Field.value in
    let unknowns = c.args.unknowns.now.keys in
    let columns = unknowns ++ [] ∷ [] in
    let start = c.as_mut_slice.result.now in
    let dense = c.add_multiple.new.dense in
    let count = c.len.result + 1 in
    let row = c.in_ok-row.row in
    let kept : length dense ≡ c.in_ok-dense.dense.len = omega (arith, c.add_multiple.auto.dense, ap length c.as_mut_slice.ensures.value, c.in_ok-dense.dense.ok.0) in
    let whole : c.as_slice.result.now ≡ dense = c.as_slice.ensures.value ∙ written_back c.in_ok-dense.dense.len dense c.in_ok-dense.dense.items kept in
    let long : length (map value c.in_ok-dense.dense.items) ≡ count = ap length c.in_ok-dense.ensures ∙ length-replicate count 0 in
    let wide : length c.as_slice.result.now ≡ length columns = omega (arith, ap length whole, c.add_multiple.auto.dense, ap length c.as_mut_slice.ensures.value, length-map c.in_ok-dense.dense.items value, long, c.len.ensures.len, length-append unknowns ([] ∷ [])) in
    row_made g.F.Field.ORDER columns c.args.multiplier.now c.args.generator.now (map value start) (map value dense) row
    (λ k. ap (λ l. get_or (map value l) k 0) c.as_mut_slice.ensures.value ∙ ap (λ l. get_or l k 0) c.in_ok-dense.ensures ∙ get_or-zeros count k)
    c.in_ok-add_multiple.ensures
    (λ k. c.in_ok-row.ensures.same k ∙ ap (λ l. get_or (map value l) k 0) whole)
    (subst (λ n. IsBelow n row) wide c.in_ok-row.ensures.below)
    c.coordinates-coordinates.ensures.valid
