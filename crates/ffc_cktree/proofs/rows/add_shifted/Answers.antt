use Rattle.std.proofs.Common.{◌≤◌, ◌++◌, ◌%◌, length, map, take, sym, ap, ◌∙◌, arith}
use Rattle.std.proofs.lemmas.List.{take-map, take_rest, drop-map, map-append}
use Rattle.ffc_uni.specs.Univariate.{coefficient_at, plus, multiple}
use Rattle.ffc_uni.proofs.Coefficients.{spliced}
use Rattle.ffc_uni.proofs.Rows.{part_written_back, length-residues}
use Rattle.ffc_cktree.proofs.rows.add_shifted.Goals as goal

pub returns : goal.returns
returns g c =
    let value = g.F.Field.value in
    let p = g.F.Field.ORDER in
    let place = c.args.place in
    let out = c.args.out.now in
    let new = c.add_multiple.new.out in
    let row = multiple (value c.args.c) (map value c.args.row.now) in
    let within : place ≤ length out = omega (arith, c.requires) in
    λ k.
    ap (λ l. coefficient_at (map value l) k % p) (part_written_back place out new within)
    ∙ ap (λ l. coefficient_at l k % p) (map-append value (take place out) new ∙ ap (λ l. l ++ map value new) (sym (take-map value place out)))
    ∙ spliced p place (map value out) (map value new) row (omega (arith, length-residues value out))
    (λ j. c.add_multiple.ensures j ∙ ap (λ l. coefficient_at (plus l row) j % p) (ap (map value) (take_rest out place) ∙ sym (drop-map value place out))) k
