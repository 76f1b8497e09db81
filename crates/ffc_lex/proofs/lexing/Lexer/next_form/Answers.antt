use Rattle.std.proofs.Common.{◌≡◌, List, drop, ℕ, ◌+◌, length, sym, ap, ◌∙◌, subst, Ok, Some, None}
use Rattle.std.specs.Prelude.{IfSome}
use Rattle.ffc_lex.specs.Scan.{AfterScan, AfterStop, IsForm, IsHeld, IsReady, IsStopped, first_start}
use Rattle.ffc_lex.specs.Lexing.{Lexing, due_fault, due_form}
use Rattle.ffc_lex.proofs.BetweenLemmas.{form_due, fault_due, none_at_end}
use Rattle.ffc_lex.proofs.KeptLemmas.{kept_on, kept_gives, no_fault_before, no_fault_after}
use Rattle.ffc_lex.proofs.lexing.Lexer.next_form.Goals as goal

pub invariant_of-self : goal.invariant_of-self
invariant_of-self c =
    let text : List ℕ = c.self.inside.input.bytes in
    let held : c.deref.result.now ≡ drop c.self.inside.scanner.kept text = c.deref.ensures.value ∙ c.self.invariant.window in
    let ready : IsReady c.self.inside.given text c.self.inside.scanner = c.self.invariant.ready c.in_default.is in
    let after : IsForm c.self.inside.given text c.in-Ok-Some.form × IsReady (c.self.inside.given + 1) text c.scan.new.self =
    subst (λ o. AfterScan (Ok o) c.self.inside.given text c.scan.new.self) c.in-Ok-Some.field-0-is (c.in-Ok-Some.ensures.read c.self.inside.given text held ready) in
    let span : IsHeld c.self.inside.scanner.kept c.scan.new.self.at.index c.scan.new.self.at.index c.in-Ok-Some.form =
    subst (λ o. IfSome o (λ form. IsHeld c.self.inside.scanner.kept c.scan.new.self.at.index c.scan.new.self.at.index form)) c.in-Ok-Some.field-0-is c.in-Ok-Some.ensures.held in
    kept_gives text c.self.inside.given c.self.inside.fault c.self.inside.scanner c.scan.new.self c.self.inside.window.items c.self.inside.form.bytes.items c.self.inside.form.start c.self.inside.form.end c.first_start_of-self-inside.result c.index-self-inside.result c.in-Ok-Some.form
    c.self.invariant c.in-Ok-Some.ensures.kept after.0 after.1 span c.index-self-inside.ensures (c.first_start_of-self-inside.ensures ∙ ap (λ ts. first_start ts c.index-self-inside.result) c.tokens.ensures)

pub invariant_of-self-in-Ok-None : goal.invariant_of-self-in-Ok-None
invariant_of-self-in-Ok-None c =
    let text : List ℕ = c.self.inside.input.bytes in
    let held : c.deref.result.now ≡ drop c.self.inside.scanner.kept text = c.deref.ensures.value ∙ c.self.invariant.window in
    let ready : IsReady c.self.inside.given text c.self.inside.scanner = c.self.invariant.ready c.in_default.is in
    let after : IsReady c.self.inside.given text c.scan.new.self × (c.scan.new.self.at.index ≡ length text) =
    subst (λ o. AfterScan (Ok o) c.self.inside.given text c.scan.new.self) c.in-Ok-None.field-0-is (c.in-Ok-None.ensures.read c.self.inside.given text held ready) in
    kept_on text c.self.inside.given c.self.inside.fault c.self.inside.fault c.self.inside.scanner c.scan.new.self c.self.inside.window.items c.self.inside.form.bytes.items c.self.inside.form.start c.self.inside.form.end c.self.invariant c.in-Ok-None.ensures.kept (λ _. after.0)

pub invariant_of-self-in-Memory : goal.invariant_of-self-in-Memory
invariant_of-self-in-Memory c =
    let text : List ℕ = c.self.inside.input.bytes in
    let held : c.deref.result.now ≡ drop c.self.inside.scanner.kept text = c.deref.ensures.value ∙ c.self.invariant.window in
    let ready : IsReady c.self.inside.given text c.self.inside.scanner = c.self.invariant.ready c.in_default.is in
    let after : IsReady c.self.inside.given text c.scan.new.self =
    subst (λ o. AfterStop o c.self.inside.given text c.scan.new.self) c.in-Memory.is (c.in-Err.ensures.read c.self.inside.given text held ready) in
    kept_on text c.self.inside.given c.self.inside.fault c.self.inside.fault c.self.inside.scanner c.scan.new.self c.self.inside.window.items c.self.inside.form.bytes.items c.self.inside.form.start c.self.inside.form.end c.self.invariant c.in-Err.ensures.kept (λ _. after)

pub returns-in-Ok-Some-clause-form : goal.returns-in-Ok-Some-clause-form
returns-in-Ok-Some-clause-form c =
    let text : List ℕ = c.self.inside.input.bytes in
    let held : c.deref.result.now ≡ drop c.self.inside.scanner.kept text = c.deref.ensures.value ∙ c.self.invariant.window in
    let ready : IsReady c.self.inside.given text c.self.inside.scanner = c.self.invariant.ready c.in_default.is in
    let after : IsForm c.self.inside.given text c.in-Ok-Some.form × IsReady (c.self.inside.given + 1) text c.scan.new.self =
    subst (λ o. AfterScan (Ok o) c.self.inside.given text c.scan.new.self) c.in-Ok-Some.field-0-is (c.in-Ok-Some.ensures.read c.self.inside.given text held ready) in
    let due : due_form None text c.self.inside.given ≡ Some c.in-Ok-Some.form = form_due c.self.inside.given text c.in-Ok-Some.form after.0 in
    sym due ∙ ((ap (λ o. due_form o c.self.inside.input.bytes c.self.inside.given) (sym c.in_default.is)
    ∙ ap (λ v. due_form v.fault v.text v.given) c.self.view_is))

pub returns-in-Ok-Some-clause-no_fault : goal.returns-in-Ok-Some-clause-no_fault
returns-in-Ok-Some-clause-no_fault c =
    let text : List ℕ = c.self.inside.input.bytes in
    let held : c.deref.result.now ≡ drop c.self.inside.scanner.kept text = c.deref.ensures.value ∙ c.self.invariant.window in
    let ready : IsReady c.self.inside.given text c.self.inside.scanner = c.self.invariant.ready c.in_default.is in
    let after : IsForm c.self.inside.given text c.in-Ok-Some.form × IsReady (c.self.inside.given + 1) text c.scan.new.self =
    subst (λ o. AfterScan (Ok o) c.self.inside.given text c.scan.new.self) c.in-Ok-Some.field-0-is (c.in-Ok-Some.ensures.read c.self.inside.given text held ready) in
    let due : due_fault None text c.self.inside.given ≡ None =
    no_fault_before c.self.inside.given text c.in-Ok-Some.form (form_due c.self.inside.given text c.in-Ok-Some.form after.0) in
    sym ((ap (λ o. due_fault o c.self.inside.input.bytes c.self.inside.given) (sym c.in_default.is)
    ∙ ap (λ v. due_fault v.fault v.text v.given) c.self.view_is)) ∙ due

pub returns-in-Ok-None-clause-form : goal.returns-in-Ok-None-clause-form
returns-in-Ok-None-clause-form c =
    let text : List ℕ = c.self.inside.input.bytes in
    let held : c.deref.result.now ≡ drop c.self.inside.scanner.kept text = c.deref.ensures.value ∙ c.self.invariant.window in
    let ready : IsReady c.self.inside.given text c.self.inside.scanner = c.self.invariant.ready c.in_default.is in
    let after : IsReady c.self.inside.given text c.scan.new.self × (c.scan.new.self.at.index ≡ length text) =
    subst (λ o. AfterScan (Ok o) c.self.inside.given text c.scan.new.self) c.in-Ok-None.field-0-is (c.in-Ok-None.ensures.read c.self.inside.given text held ready) in
    let due : due_form None text c.self.inside.given ≡ None = (none_at_end c.self.inside.given text c.scan.new.self after.0 after.1).0 in
    sym due ∙ ((ap (λ o. due_form o c.self.inside.input.bytes c.self.inside.given) (sym c.in_default.is)
    ∙ ap (λ v. due_form v.fault v.text v.given) c.self.view_is))

pub returns-in-Ok-None-clause-no_fault : goal.returns-in-Ok-None-clause-no_fault
returns-in-Ok-None-clause-no_fault c =
    let text : List ℕ = c.self.inside.input.bytes in
    let held : c.deref.result.now ≡ drop c.self.inside.scanner.kept text = c.deref.ensures.value ∙ c.self.invariant.window in
    let ready : IsReady c.self.inside.given text c.self.inside.scanner = c.self.invariant.ready c.in_default.is in
    let after : IsReady c.self.inside.given text c.scan.new.self × (c.scan.new.self.at.index ≡ length text) =
    subst (λ o. AfterScan (Ok o) c.self.inside.given text c.scan.new.self) c.in-Ok-None.field-0-is (c.in-Ok-None.ensures.read c.self.inside.given text held ready) in
    let due : due_fault None text c.self.inside.given ≡ None =
    no_fault_after c.self.inside.given text (none_at_end c.self.inside.given text c.scan.new.self after.0 after.1) in
    sym ((ap (λ o. due_fault o c.self.inside.input.bytes c.self.inside.given) (sym c.in_default.is)
    ∙ ap (λ v. due_fault v.fault v.text v.given) c.self.view_is)) ∙ due

pub returns-in-Fault-clause-stop : goal.returns-in-Fault-clause-stop
returns-in-Fault-clause-stop c =
    let text : List ℕ = c.self.inside.input.bytes in
    let held : c.deref.result.now ≡ drop c.self.inside.scanner.kept text = c.deref.ensures.value ∙ c.self.invariant.window in
    let ready : IsReady c.self.inside.given text c.self.inside.scanner = c.self.invariant.ready c.in_default.is in
    let after : IsStopped c.self.inside.given text c.in-Fault.met =
    subst (λ o. AfterStop o c.self.inside.given text c.scan.new.self) c.in-Fault.is (c.in-Err.ensures.read c.self.inside.given text held ready) in
    let due : due_fault None text c.self.inside.given ≡ Some c.in-Fault.met = fault_due c.self.inside.given text c.in-Fault.met after in (
      sym ((ap (λ o. due_fault o c.self.inside.input.bytes c.self.inside.given) (sym c.in_default.is)
          ∙ ap (λ v. due_fault v.fault v.text v.given) c.self.view_is)) ∙ due,
      ap (λ (l : Lexing). let x : Lexing = record l { fault = Some c.in-Fault.met } in x) c.self.view_is,
    )
