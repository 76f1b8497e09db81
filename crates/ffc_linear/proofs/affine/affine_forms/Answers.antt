use Rattle.std.proofs.Common.{take, get_or}
use Rattle.std.proofs.lemmas.List.{take_more}
use Rattle.std.proofs.lemmas.List.Elements.{All-push}
use Rattle.ffc_echelon.specs.Vectors.{AreCoordinates}
use Rattle.ffc_linear.proofs.AffineLemmas.{forms_push}
use Rattle.ffc_linear.proofs.affine.affine_forms.Goals as goal

pub loop-id-preserved : goal.loop-id-preserved
loop-id-preserved g c =
    let p = g.F.Field.ORDER in
    let nodes = c.args.table.now in
    let constants = c.args.constants.now in
    let ids = c.args.ids.now in
    let i = c.loop-id.id-index in
    let id = get_or ids i 0 in
    let forms = c.loop-id.forms.items in
    let form = c.in_ok-affine_form.field-0 in
    record {
      forms = rw (take_more ids i 0 c.loop-id-test.true, c.in_ok-push.ensures.items)
          (forms_push p nodes constants (take i ids) forms id form c.loop-id.invariant.forms c.in_ok-affine_form.ensures.form);
      valid = rw c.in_ok-push.ensures.items (All-push (AreCoordinates p) forms form c.loop-id.invariant.valid c.in_ok-affine_form.ensures.valid);
    }
