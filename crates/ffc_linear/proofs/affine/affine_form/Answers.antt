use Rattle.std.proofs.Common.{map, get_or, ap, ◌∙◌, sym, subst, length}
use Rattle.std.proofs.lemmas.List.{length-map}
use Rattle.ffc_echelon.specs.Vectors.{IsBelow}
use Rattle.ffc_linear.proofs.AffineLemmas.{sides_low, form_of_sides}
use Rattle.ffc_linear.proofs.affine.affine_form.Goals as goal

pub poly_within-requires : goal.poly_within-requires
poly_within-requires g c =
    let low = (sides_low g.F.Field.ORDER c.args.table.now c.args.constants.now c.args.id c.sides-s.ensures.valid c.requires.affine c.sides-s.result.0 c.sides-s.result.1 c.sides-s.ensures.at).0 in
    record { field = low.field; low = low.low; short = low.short }

pub poly_within-requires-2 : goal.poly_within-requires-2
poly_within-requires-2 g c =
    let low = (sides_low g.F.Field.ORDER c.args.table.now c.args.constants.now c.args.id c.sides-s.ensures.valid c.requires.affine c.sides-s.result.0 c.sides-s.result.1 c.sides-s.ensures.at).1 in
    record { field = low.field; low = low.low; short = low.short }

pub returns-clause-form : goal.returns-clause-form
returns-clause-form g c =
    let value = g.F.Field.value in
    let p = g.F.Field.ORDER in
    let nodes = c.args.table.now in
    let ids = c.args.constants.now in
    let s = c.sides-s.result.0 in
    let t = c.sides-s.result.1 in
    let dense = c.in_ok-dense.dense.items in
    let low = sides_low p nodes ids c.args.id c.sides-s.ensures.valid c.requires.affine s t c.sides-s.ensures.at in
    form_of_sides p nodes ids c.args.id s t c.in_ok-left.left c.in_ok-right.right (map value dense) c.in_ok-form.form c.sides-s.ensures.at low.0 low.1
    c.in_ok-left.ensures c.in_ok-right.ensures (length-map dense value ∙ c.in_ok-dense.ensures.width) c.in_ok-dense.ensures.same
    (λ k. c.in_ok-form.ensures.same k ∙ ap (λ l. get_or (map value l) k 0) c.as_slice.ensures.value)
    (subst (λ n. IsBelow n c.in_ok-form.form) (ap length c.as_slice.ensures.value ∙ sym (length-map dense value)) c.in_ok-form.ensures.below)
