use Rattle.std.proofs.Common.{take, get_or}
use Rattle.std.proofs.lemmas.List.{take_more}
use Rattle.ffc_single.proofs.SideLemmas.{forms_push}
use Rattle.ffc_single.proofs.univariate.differences.Goals as goal

pub loop-id-preserved : goal.loop-id-preserved
loop-id-preserved g c =
    let ids = c.args.ids.now in
    let i = c.loop-id.id-index in
    let id = get_or ids i 0 in
    let form = c.in_ok-difference.field-0 in
    record {
      of_table = c.difference.ensures.of_table;
      forms = rw (take_more ids i 0 c.loop-id-test.true, c.in_ok-push.ensures.items)
          (forms_push g.F.Field.ORDER c.args.table.now c.args.variable (take i ids) c.loop-id.forms.items id form c.loop-id.invariant.forms c.in_ok-difference.ensures.form);
    }
