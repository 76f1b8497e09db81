use Rattle.std.proofs.Common.{Err, sym, ap, ◌∙◌, subst}
use Rattle.ffc_elab.specs.AskedNodes.{AreToMake}
use Rattle.ffc_elab.proofs.AskingLemmas.{to_make, list_made, list_full, list_stops}
use Rattle.ffc_elab.proofs.store.Store.make_listed.Goals as goal

pub returns-in-Err-clause-made : goal.returns-in-Err-clause-made
returns-in-Err-clause-made c = λ k tree kept known form.
    list_stops k tree c.args.self.now.symbols c.args.words.now c.args.listed c.args.self.now.table c.in-Err.stop (c.in-Err.ensures k tree kept form)

pub make_all-requires : goal.make_all-requires
make_all-requires c =
    let r = c.requires in
    let x = c.args.self.now in
    let light = c.in-Ok.ensures r.known r.tree r.kept r.form in
    (light.asked, subst (AreToMake c.args.words.now x.table x.symbols light.asked) (sym c.deref.ensures.value) (to_make r.known r.tree c.args.words.now c.args.listed x r.sound r.kept c.in-Ok.list light))

pub returns-in-Ok-make_all-clause-made : goal.returns-in-Ok-make_all-clause-made
returns-in-Ok-make_all-clause-made c = λ k tree kept known form.
    let x = c.args.self.now in
    let light = c.in-Ok.ensures k tree kept form in
    list_made k tree c.args.words.now c.args.listed x known kept c.in-Ok.list light c.make_all.new.table c.in-Ok-make_all.asked.items
    (c.in-Ok-make_all.ensures light.asked
    (subst (AreToMake c.args.words.now x.table x.symbols light.asked) (sym c.deref.ensures.value) (to_make k tree c.args.words.now c.args.listed x known kept c.in-Ok.list light)))

pub returns-in-Err-Memory-clause-made : goal.returns-in-Err-Memory-clause-made
returns-in-Err-Memory-clause-made c = λ k tree kept known form.
    let x = c.args.self.now in
    let light = c.in-Ok.ensures k tree kept form in
    (c.in-Err-Memory.ensures light.asked
    (subst (AreToMake c.args.words.now x.table x.symbols light.asked) (sym c.deref.ensures.value) (to_make k tree c.args.words.now c.args.listed x known kept c.in-Ok.list light))).same

pub returns-clause-made : goal.returns-clause-made
returns-clause-made c = λ k tree kept known form.
    let x = c.args.self.now in
    let light = c.in-Ok.ensures k tree kept form in
    let none = c.in-Err-Nodes.ensures light.asked
    (subst (AreToMake c.args.words.now x.table x.symbols light.asked) (sym c.deref.ensures.value) (to_make k tree c.args.words.now c.args.listed x known kept c.in-Ok.list light)) in
    (λ whole. list_full k tree c.args.words.now c.args.listed x known kept c.in-Ok.list light (none.full c.in-Err-Nodes.field-0-is) whole ∙ ap Err (sym c.fault.ensures), none.same)
