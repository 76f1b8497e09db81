use Rattle.std.proofs.Common.{List, map, sym, subst, Ok, Err}
use Rattle.ffc_smt.specs.CommandReading.{command_read, limits}
use Rattle.ffc_smt.specs.Trees.{Word, word_of}
use Rattle.ffc_words.specs.declared.faults.TakeStop.TheVariants as stop
use Rattle.ffc_elab.specs.Histories.{known_of}
use Rattle.ffc_elab.specs.Answers.{TakesAs}
use Rattle.ffc_elab.specs.Kept.{IsKept, IsKnown}
use Rattle.ffc_elab.specs.Reading.{IsCommandForm, IsFormOf}
use Rattle.ffc_elab.specs.Taking.{TakesKept}
use Rattle.ffc_words.specs.Words.{fault_of}
use Rattle.ffc_elab.proofs.ChangeLemmas.{fault_read}
use Rattle.ffc_elab.proofs.ContextLemmas.{context_is_sound, history_is_known, taken_has_nodes, taken_in_scope}
use Rattle.ffc_elab.proofs.GivenLemmas.{given_tree, given_form}
use Rattle.ffc_elab.proofs.TakeLemmas.{refused_as, stopped_as, stopped_keeps, taken_keeps, taken_as}
use Rattle.ffc_elab.proofs.context.Context.take.Goals as goal

pub take_command-requires : goal.take_command-requires
take_command-requires c =
    let given = c.requires in
    let form = c.args.form.now in
    let l = c.args.lexer.now in
    let tree = given_tree form l given in
    let k = known_of c.self.inside.taken.forms in
    let whole = given_form form l given tree.0 tree.1 in
    record {
      known = k;
      tree = tree.0;
      kept = c.self.invariant.0;
      sound = c.self.invariant.1;
      form = c.in-Ok.ensures k.state tree.0 (sym c.self.invariant.0.logic) (subst (λ ws. IsFormOf ws tree.0) (sym c.new-words.ensures) whole);
    }

pub invariant_of-self : goal.invariant_of-self
invariant_of-self c =
    let given = c.requires in
    let form = c.args.form.now in
    let l = c.args.lexer.now in
    let tree = given_tree form l given in
    let k = known_of c.self.inside.taken.forms in
    let whole = subst (λ ws. IsFormOf ws tree.0) (sym c.new-words.ensures) (given_form form l given tree.0 tree.1) in
    let kept = c.self.invariant.0 in
    let here : IsCommandForm c.new-words.result k.state tree.0 c.in-Ok.head = c.in-Ok.ensures k.state tree.0 (sym kept.logic) whole in
    let taken = subst (TakesKept k tree.0 c.take_command.new.self) c.in-Err-take_command.is (c.take_command.ensures k tree.0 kept c.self.invariant.1 whole here) in
    (stopped_keeps k tree.0 c.in-Err-take_command.stop c.take_command.new.self taken, c.self.invariant.1)

pub invariant_of-self-in-Ok-take_command : goal.invariant_of-self-in-Ok-take_command
invariant_of-self-in-Ok-take_command c =
    let given = c.requires in
    let form = c.args.form.now in
    let l = c.args.lexer.now in
    let words = map (word_of l.text) form in
    let tree = given_tree form l given in
    let forms = c.self.inside.taken.forms in
    let k = known_of forms in
    let whole = subst (λ ws. IsFormOf ws tree.0) (sym c.new-words.ensures) (given_form form l given tree.0 tree.1) in
    let kept = c.self.invariant.0 in
    let here : IsCommandForm c.new-words.result k.state tree.0 c.in-Ok.head = c.in-Ok.ensures k.state tree.0 (sym kept.logic) whole in
    let taken = subst (TakesKept k tree.0 c.take_command.new.self) c.in-Ok-take_command.is (c.take_command.ensures k tree.0 kept c.self.invariant.1 whole here) in
    let both = taken_keeps forms words tree.0 c.take_command.new.self c.in-Ok-take_command.command tree.1 taken c.self.invariant.1 in
    subst (λ (v : List (List Word)). IsKept (known_of v) c.take_command.new.self × IsKnown (known_of v)) (sym c.take.ensures) both

pub returns-in-Err-clause-taken : goal.returns-in-Err-clause-taken
returns-in-Err-clause-taken c = λ tree is.
    let form = c.args.form.now in
    let l = c.args.lexer.now in
    let forms = c.self.inside.taken.forms in
    let k = known_of forms in
    let whole = subst (λ ws. IsFormOf ws tree) (sym c.new-words.ensures) (given_form form l c.requires tree is) in
    subst (λ (v : List (List Word)). TakesAs (known_of v) tree (command_read limits (known_of v).state tree) (Err (stop.Fault c.in-Err.fault)) (known_of v)) c.self.view_is
    (refused_as k tree c.in-Err.fault (fault_read k.state tree (fault_of c.in-Err.fault) (c.in-Err.ensures k.state tree (sym c.self.invariant.0.logic) whole)))

pub returns-in-Err-take_command-clause-taken : goal.returns-in-Err-take_command-clause-taken
returns-in-Err-take_command-clause-taken c = λ tree is.
    let form = c.args.form.now in
    let l = c.args.lexer.now in
    let forms = c.self.inside.taken.forms in
    let k = known_of forms in
    let whole = subst (λ ws. IsFormOf ws tree) (sym c.new-words.ensures) (given_form form l c.requires tree is) in
    let kept = c.self.invariant.0 in
    let here : IsCommandForm c.new-words.result k.state tree c.in-Ok.head = c.in-Ok.ensures k.state tree (sym kept.logic) whole in
    let taken = subst (TakesKept k tree c.take_command.new.self) c.in-Err-take_command.is (c.take_command.ensures k tree kept c.self.invariant.1 whole here) in
    subst (λ (v : List (List Word)). TakesAs (known_of v) tree (command_read limits (known_of v).state tree) (Err c.in-Err-take_command.stop) (known_of forms)) c.self.view_is
    (stopped_as k tree c.in-Err-take_command.stop c.take_command.new.self taken)

pub returns-in-Ok-take_command-clause-taken : goal.returns-in-Ok-take_command-clause-taken
returns-in-Ok-take_command-clause-taken c = λ tree is.
    let form = c.args.form.now in
    let l = c.args.lexer.now in
    let words = map (word_of l.text) form in
    let forms = c.self.inside.taken.forms in
    let k = known_of forms in
    let whole = subst (λ ws. IsFormOf ws tree) (sym c.new-words.ensures) (given_form form l c.requires tree is) in
    let kept = c.self.invariant.0 in
    let here : IsCommandForm c.new-words.result k.state tree c.in-Ok.head = c.in-Ok.ensures k.state tree (sym kept.logic) whole in
    let taken = subst (TakesKept k tree c.take_command.new.self) c.in-Ok-take_command.is (c.take_command.ensures k tree kept c.self.invariant.1 whole here) in
    let r = c.in-Ok-take_command.command in
    let so = taken_as forms words tree c.take_command.new.self r is taken in
    subst (λ (v : List (List Word)). TakesAs (known_of v) tree (command_read limits (known_of v).state tree) (Ok r) (known_of c.take.new.self.forms)) c.self.view_is
    (subst (λ (v : List (List Word)). TakesAs k tree (command_read limits k.state tree) (Ok r) (known_of v)) (sym c.take.ensures) so)

pub returns-in-Ok-take_command-clause-values : goal.returns-in-Ok-take_command-clause-values
returns-in-Ok-take_command-clause-values c = λ tree said is read.
    let k = known_of c.args.self.now in
    taken_has_nodes k tree c.in-Ok-take_command.command (known_of c.take.new.self.forms) (history_is_known c.args.self.now) said (returns-in-Ok-take_command-clause-taken c tree is) read

pub returns-in-Ok-take_command-clause-asked : goal.returns-in-Ok-take_command-clause-asked
returns-in-Ok-take_command-clause-asked c =
    let tree = given_tree c.args.form.now c.args.lexer.now c.requires in
    let k = known_of c.args.self.now in
    taken_in_scope k tree.0 c.in-Ok-take_command.command (known_of c.take.new.self.forms) (history_is_known c.args.self.now) (returns-in-Ok-take_command-clause-taken c tree.0 tree.1)

pub returns-in-Err-clause-sound : goal.returns-in-Err-clause-sound
returns-in-Err-clause-sound c = context_is_sound _

pub returns-in-Err-take_command-clause-sound : goal.returns-in-Err-take_command-clause-sound
returns-in-Err-take_command-clause-sound c = context_is_sound _

pub returns-in-Ok-take_command-clause-sound : goal.returns-in-Ok-take_command-clause-sound
returns-in-Ok-take_command-clause-sound c = context_is_sound _
