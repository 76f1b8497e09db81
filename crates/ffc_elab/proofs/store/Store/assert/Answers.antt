use Rattle.std.specs.Prelude.{option_map}
use Rattle.ffc_parts.specs.declared.heads.Head.TheVariants as head
use Rattle.ffc_elab.proofs.AssertCommand.{assertion_sound, assert_stopped, assert_taken}
use Rattle.ffc_elab.proofs.store.Store.assert.Goals as goal

pub returns-in-Err : goal.returns-in-Err
returns-in-Err c = λ k tree kept known whole form it.
    let x = c.args.self.now in
    let a = c.args.assertion.now in
    let sound = assertion_sound k x tree c.args.words.now head.Assert form a known kept it in
    assert_stopped k tree c.args.words.now known head.Assert form (option_map (λ b. b.now) a.name) it.term it.sound whole x c.term_node.new.self c.in-Err.stop kept c.in-Err.ensures.others (c.in-Err.ensures.fits it.term sound)

pub returns-in-Ok-push_asserted : goal.returns-in-Ok-push_asserted
returns-in-Ok-push_asserted c = λ k tree kept known whole form it.
    let x = c.args.self.now in
    let a = c.args.assertion.now in
    let sound = assertion_sound k x tree c.args.words.now head.Assert form a known kept it in
    assert_taken k tree c.args.words.now known head.Assert form (option_map (λ b. b.now) a.name) it.term it.sound whole x c.term_node.new.self c.in-Ok.node kept c.in-Ok.ensures.others (c.in-Ok.ensures.fits it.term sound)
    c.push_asserted.new.self c.in-Ok-push_asserted.ensures.ok
