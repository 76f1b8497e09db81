use Rattle.std.proofs.Common.{◌≡◌, ◌+◌, Some, sym, ◌∙◌}
use Rattle.std.specs.Option.{IfSome}
use Rattle.ffc_explain.proofs.FormLemmas.{next_is_given}
use Rattle.ffc_explain.proofs.sorts.next_form.Goals as goal

pub returns-in-Ok-Some : goal.returns-in-Ok-Some
returns-in-Ok-Some c =
    let lexer = c.args.lexer.now in
    let due = sym (sym c.in-Ok-Some.field-0-is ∙ c.in-Ok-Some.ensures.form) in
    let new : IfSome (Some c.in-Ok-Some.form) (λ _. c.next_form.new.self ≡ record lexer { given = lexer.given + 1 }) = rw c.in-Ok-Some.field-0-is at c.in-Ok-Some.ensures.given in
    next_is_given lexer c.next_form.new.self c.in-Ok-Some.form due new
