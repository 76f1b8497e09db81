use Rattle.std.proofs.Common.{◌≡◌, ◌+◌, true, Some, Option, refl, ap, sym, subst, ◌∙◌}
use Rattle.std.specs.Option.{IfSome}
use Rattle.ffc_lex.specs.Lexing.{Lexing}
use Rattle.ffc_script.specs.Answers.{StopsAt}
use Rattle.ffc_script.specs.Kept.{IsKept}
use Rattle.ffc_script.proofs.KeptLemmas.{kept_over}
use Rattle.ffc_script.proofs.ReaderLemmas.{kept_now, over_is, lex_text, lex_stops, given_now, kept_then, gives_then, take_stops}
use Rattle.ffc_script.proofs.reader.ScriptReader.next_command.Goals as goal

pub invariant_of-self-in-Err : goal.invariant_of-self-in-Err
invariant_of-self-in-Err c =
    let i = c.self.inside in
    let kept = kept_now i.lexer i.context i.over c.args.self.now c.self.view_is c.requires c.self.invariant in
    kept_over i.lexer i.context kept c.next_form.new.self (lex_text i.lexer i.context i.over c.args.self.now c.self.view_is c.requires c.self.invariant c.next_form.new.self c.in-Err.stop c.in-Err.ensures.stop)

pub returns-in-Err-clause-stop : goal.returns-in-Err-clause-stop
returns-in-Err-clause-stop c =
    let i = c.self.inside in
    let text = lex_text i.lexer i.context i.over c.args.self.now c.self.view_is c.requires c.self.invariant c.next_form.new.self c.in-Err.stop c.in-Err.ensures.stop in (
      over_is i.lexer i.context i.over c.args.self.now c.self.view_is c.requires c.self.invariant c.next_form.new.self i.context text refl,
      subst (StopsAt c.args.self.now) (sym c.from.ensures) (lex_stops i.lexer i.context i.over c.args.self.now c.self.view_is c.requires c.self.invariant c.next_form.new.self c.in-Err.stop c.in-Err.ensures.stop),
    )

pub take-requires : goal.take-requires
take-requires c =
    let i = c.self.inside in
    let due = sym c.in-Ok-Some.field-0-is ∙ c.in-Ok-Some.ensures.form in
    let new : IfSome (Some c.in-Ok-Some.form) (λ _. c.next_form.new.self ≡ record i.lexer { given = i.lexer.given + 1 }) = rw c.in-Ok-Some.field-0-is at c.in-Ok-Some.ensures.given in
    given_now i.lexer i.context i.over c.args.self.now c.self.view_is c.requires c.self.invariant c.in-Ok-Some.form due c.next_form.new.self new

pub invariant_of-self-in-Ok : goal.invariant_of-self-in-Ok
invariant_of-self-in-Ok c =
    let i = c.self.inside in
    let due = sym c.in-Ok-Some.field-0-is ∙ c.in-Ok-Some.ensures.form in
    let new : IfSome (Some c.in-Ok-Some.form) (λ _. c.next_form.new.self ≡ record i.lexer { given = i.lexer.given + 1 }) = rw c.in-Ok-Some.field-0-is at c.in-Ok-Some.ensures.given in
    kept_then i.lexer i.context i.over c.args.self.now c.self.view_is c.requires c.self.invariant c.in-Ok-Some.form due c.next_form.new.self c.in-Ok.command c.take.new.self
    c.ends_script-self-inside.result new c.in-Ok.ensures.taken c.in-Ok.ensures.ok c.ends_script-self-inside.ensures

pub returns-in-Ok-clause-some : goal.returns-in-Ok-clause-some
returns-in-Ok-clause-some c =
    let i = c.self.inside in
    let due = sym c.in-Ok-Some.field-0-is ∙ c.in-Ok-Some.ensures.form in
    let new : IfSome (Some c.in-Ok-Some.form) (λ _. c.next_form.new.self ≡ record i.lexer { given = i.lexer.given + 1 }) = rw c.in-Ok-Some.field-0-is at c.in-Ok-Some.ensures.given in
    gives_then i.lexer i.context i.over c.args.self.now c.self.view_is c.requires c.self.invariant c.in-Ok-Some.form due c.next_form.new.self c.in-Ok.command c.take.new.self
    c.ends_script-self-inside.result new c.in-Ok.ensures.taken c.in-Ok.ensures.ok c.ends_script-self-inside.ensures

pub invariant_of-self-in-Err-take : goal.invariant_of-self-in-Err-take
invariant_of-self-in-Err-take c =
    let i = c.self.inside in
    let kept = kept_now i.lexer i.context i.over c.args.self.now c.self.view_is c.requires c.self.invariant in
    let new : IfSome (Some c.in-Ok-Some.form) (λ _. c.next_form.new.self ≡ record i.lexer { given = i.lexer.given + 1 }) = rw c.in-Ok-Some.field-0-is at c.in-Ok-Some.ensures.given in
    subst (λ fs. IsKept c.next_form.new.self fs true) (sym c.in-Err-take.ensures.refused) (kept_over i.lexer i.context kept c.next_form.new.self (ap (λ l. l.text) new))

pub returns-clause-stop : goal.returns-clause-stop
returns-clause-stop c =
    let i = c.self.inside in
    let due = sym c.in-Ok-Some.field-0-is ∙ c.in-Ok-Some.ensures.form in
    let new : IfSome (Some c.in-Ok-Some.form) (λ _. c.next_form.new.self ≡ record i.lexer { given = i.lexer.given + 1 }) = rw c.in-Ok-Some.field-0-is at c.in-Ok-Some.ensures.given in
    let text = ap (λ (l : Lexing). l.text) new in (
      over_is i.lexer i.context i.over c.args.self.now c.self.view_is c.requires c.self.invariant c.next_form.new.self c.take.new.self text c.in-Err-take.ensures.refused,
      subst (StopsAt c.args.self.now) (sym c.from-in-Err-take.ensures)
          (take_stops i.lexer i.context i.over c.args.self.now c.self.view_is c.requires c.self.invariant c.in-Ok-Some.form due c.next_form.new.self c.in-Err-take.stop c.take.new.self text c.in-Err-take.ensures.taken),
    )
