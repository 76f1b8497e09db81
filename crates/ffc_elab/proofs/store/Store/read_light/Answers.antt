use Rattle.std.proofs.Common.{Err, sym, ap, ◌∙◌}
use Rattle.ffc_elab.proofs.AskingLemmas.{light_stops, light_list, heavy_list}
use Rattle.ffc_elab.proofs.store.Store.read_light.Goals as goal

pub returns-in-Err : goal.returns-in-Err
returns-in-Err c = λ k tree kept form.
    light_stops k tree c.args.words.now c.args.listed form c.args.self.now.symbols c.in-Err.stop (c.in-Err.ensures k.state.nodes k.state form.items form.closing kept.scope form.at form.order)

pub returns-then-list-gt-MOST_WEIGHT : goal.returns-then-list-gt-MOST_WEIGHT
returns-then-list-gt-MOST_WEIGHT c = λ k tree kept form whole.
    heavy_list k tree c.args.words.now c.args.listed form c.args.self.now.symbols c.in-Ok.list (c.in-Ok.ensures k.state.nodes k.state form.items form.closing kept.scope form.at form.order)
    c.if-list-gt-MOST_WEIGHT.true whole
    ∙ ap Err (sym c.fault.ensures)

pub returns-else-list-gt-MOST_WEIGHT : goal.returns-else-list-gt-MOST_WEIGHT
returns-else-list-gt-MOST_WEIGHT c = λ k tree kept form.
    light_list k tree c.args.words.now c.args.listed form c.args.self.now.symbols c.in-Ok.list (c.in-Ok.ensures k.state.nodes k.state form.items form.closing kept.scope form.at form.order)
    c.if-list-gt-MOST_WEIGHT.false
