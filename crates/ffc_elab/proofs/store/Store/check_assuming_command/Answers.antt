use Rattle.std.proofs.Common.{sym, ◌∙◌, subst}
use Rattle.ffc_parts.specs.Growing.{Grows}
use Rattle.ffc_elab.specs.declared.asked_lists.Listed.TheVariants as listed
use Rattle.ffc_elab.specs.Changes.{with_nodes, with_state}
use Rattle.ffc_elab.proofs.AskingLemmas.{grown_kept, list_refused, assuming_taken}
use Rattle.ffc_elab.proofs.SameLemmas.{same_keeps, same_cut}
use Rattle.ffc_elab.proofs.store.Store.check_assuming_command.Goals as goal

pub keep_nodes-requires : goal.keep_nodes-requires
keep_nodes-requires c =
    let r = c.requires in
    let x = c.args.self.now in
    let made = c.in-Ok.ensures.made r.known r.tree r.kept r.sound r.form in
    (x.table, c.len-before.ensures.valid, subst (Grows x.table) (sym c.in-Err-assume.ensures.err.table) made.made.grows, c.len-before.ensures.count)

pub returns-in-Err : goal.returns-in-Err
returns-in-Err c = λ k tree kept known whole form.
    list_refused k tree c.args.words.now listed.Assumptions c.args.self.now c.make_listed.new.self c.in-Err.stop (c.in-Err.ensures.made k tree kept known form) c.in-Err.ensures.others whole kept

pub returns-in-Ok-assume : goal.returns-in-Ok-assume
returns-in-Ok-assume c = λ k tree kept known whole form.
    let x = c.args.self.now in
    let y = c.make_listed.new.self in
    let same = c.in-Ok.ensures.others in
    let made = c.in-Ok.ensures.made k tree kept known form in
    let grown = with_nodes y.table k.state in
    assuming_taken k tree c.args.words.now x y known kept same whole c.in-Ok.asked made c.assume.new.self
    (c.in-Ok-assume.ensures.ok (with_state k grown) made.asked (c.deref.ensures.value ∙ made.made.listed) (grown_kept k tree listed.Assumptions x y known kept same c.in-Ok.asked.items made))

pub returns-in-Err-assume : goal.returns-in-Err-assume
returns-in-Err-assume c = λ k tree kept known whole form.
    let x = c.args.self.now in
    let y = c.make_listed.new.self in
    let z = c.assume.new.self in
    let w = c.keep_nodes.new.self in
    let made = c.in-Ok.ensures.made k tree kept known form in
    let e = c.in-Err-assume.ensures.err in
    let back = c.keep_nodes.ensures.table x.table (subst (Grows x.table) (sym e.table) made.made.grows) c.len-before.ensures.count in
    same_keeps k x w (same_cut x y z w y.table w.table c.in-Ok.ensures.others e c.keep_nodes.ensures.others back) kept
