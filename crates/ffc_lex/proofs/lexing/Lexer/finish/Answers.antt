use Rattle.std.proofs.Common.{◌≡◌, List, drop, ℕ, ◌+◌, length, sym, ap, ◌∙◌, subst, arith, Ok, Some, None, true}
use Rattle.std.proofs.lemmas.List.{length-drop}
use Rattle.ffc_lex.specs.Reading.{end_fault_of}
use Rattle.ffc_lex.specs.Scan.{AfterScan, AfterStop, IsForm, IsReady, IsStopped}
use Rattle.ffc_lex.specs.Lexing.{Lexing, due_fault, next_form_of, end_fault}
use Rattle.ffc_lex.proofs.BetweenLemmas.{form_due, fault_due}
use Rattle.ffc_lex.proofs.KeptLemmas.{kept_on, read_out, no_fault_after}
use Rattle.ffc_lex.proofs.lexing.Lexer.finish.Goals as goal

pub unreachable-requires : goal.unreachable-requires
unreachable-requires c =
    let text : List ℕ = c.self.inside.input.bytes in
    let held : c.deref.result.now ≡ drop c.self.inside.scanner.kept text = c.deref.ensures.value ∙ c.self.invariant.window in
    let ready : IsReady c.self.inside.given text c.self.inside.scanner = c.self.invariant.ready c.in_default.is in
    let after : IsForm c.self.inside.given text c.in-Ok-Some.field-0-0 × IsReady (c.self.inside.given + 1) text c.scan.new.self =
    subst (λ o. AfterScan (Ok o) c.self.inside.given text c.scan.new.self) c.in-Ok-Some.field-0-is (c.in-Ok-Some.ensures.read c.self.inside.given text held ready) in
    let due : next_form_of text c.self.inside.given ≡ Some c.in-Ok-Some.field-0-0 = form_due c.self.inside.given text c.in-Ok-Some.field-0-0 after.0 in
    let none : next_form_of c.args.self.now.text c.args.self.now.given ≡ None = (read_out c.args.self.now c.requires (sym (ap (λ v. v.fault) c.self.view_is) ∙ c.in_default.is)).0 in
    let same : next_form_of text c.self.inside.given ≡ next_form_of c.args.self.now.text c.args.self.now.given =
    ap (λ v. next_form_of v.text v.given) c.self.view_is in
    let clash : Some c.in-Ok-Some.field-0-0 ≡ None = sym due ∙ (same ∙ none) in
    cc

pub unreachable-requires-in-Err-Fault : goal.unreachable-requires-in-Err-Fault
unreachable-requires-in-Err-Fault c =
    let text : List ℕ = c.self.inside.input.bytes in
    let held : c.deref.result.now ≡ drop c.self.inside.scanner.kept text = c.deref.ensures.value ∙ c.self.invariant.window in
    let ready : IsReady c.self.inside.given text c.self.inside.scanner = c.self.invariant.ready c.in_default.is in
    let after : IsStopped c.self.inside.given text c.in-Err-Fault.field-0-0 =
    subst (λ o. AfterStop o c.self.inside.given text c.scan.new.self) c.in-Err-Fault.field-0-is (c.in-Err-Fault.ensures.read c.self.inside.given text held ready) in
    let due : due_fault None text c.self.inside.given ≡ Some c.in-Err-Fault.field-0-0 = fault_due c.self.inside.given text c.in-Err-Fault.field-0-0 after in
    let none : due_fault None c.args.self.now.text c.args.self.now.given ≡ None =
    no_fault_after c.args.self.now.given c.args.self.now.text (read_out c.args.self.now c.requires (sym (ap (λ v. v.fault) c.self.view_is) ∙ c.in_default.is)) in
    let same : due_fault None text c.self.inside.given ≡ due_fault None c.args.self.now.text c.args.self.now.given =
    ap (λ v. due_fault None v.text v.given) c.self.view_is in
    let clash : Some c.in-Err-Fault.field-0-0 ≡ None = sym due ∙ (same ∙ none) in
    cc

pub invariant_of-self-in-Err-Memory : goal.invariant_of-self-in-Err-Memory
invariant_of-self-in-Err-Memory c =
    let text : List ℕ = c.self.inside.input.bytes in
    let held : c.deref.result.now ≡ drop c.self.inside.scanner.kept text = c.deref.ensures.value ∙ c.self.invariant.window in
    let ready : IsReady c.self.inside.given text c.self.inside.scanner = c.self.invariant.ready c.in_default.is in
    let after : IsReady c.self.inside.given text c.scan.new.self =
    subst (λ o. AfterStop o c.self.inside.given text c.scan.new.self) c.in-Err-Memory.field-0-is (c.in-Err-Memory.ensures.read c.self.inside.given text held ready) in
    kept_on text c.self.inside.given c.self.inside.fault c.self.inside.fault c.self.inside.scanner c.scan.new.self c.self.inside.window.items c.self.inside.form.bytes.items c.self.inside.form.start c.self.inside.form.end c.self.invariant c.in-Err-Memory.ensures.kept (λ _. after)

pub fault_at_end-requires : goal.fault_at_end-requires
fault_at_end-requires c =
    let text : List ℕ = c.self.inside.input.bytes in
    let held : c.deref.result.now ≡ drop c.self.inside.scanner.kept text = c.deref.ensures.value ∙ c.self.invariant.window in
    let ready : IsReady c.self.inside.given text c.self.inside.scanner = c.self.invariant.ready c.in_default.is in
    let after : IsReady c.self.inside.given text c.scan.new.self × (c.scan.new.self.at.index ≡ length text) =
    subst (λ o. AfterScan (Ok o) c.self.inside.given text c.scan.new.self) c.in-Ok-None.field-0-is (c.in-Ok-None.ensures.read c.self.inside.given text held ready) in
    omega (arith, after.1, c.in-Ok-None.ensures.kept, ap length (c.deref-2.ensures.value ∙ c.self.invariant.window), length-drop c.self.inside.scanner.kept text)

pub invariant_of-self-in-None : goal.invariant_of-self-in-None
invariant_of-self-in-None c =
    let text : List ℕ = c.self.inside.input.bytes in
    let held : c.deref.result.now ≡ drop c.self.inside.scanner.kept text = c.deref.ensures.value ∙ c.self.invariant.window in
    let ready : IsReady c.self.inside.given text c.self.inside.scanner = c.self.invariant.ready c.in_default.is in
    let after : IsReady c.self.inside.given text c.scan.new.self × (c.scan.new.self.at.index ≡ length text) =
    subst (λ o. AfterScan (Ok o) c.self.inside.given text c.scan.new.self) c.in-Ok-None.field-0-is (c.in-Ok-None.ensures.read c.self.inside.given text held ready) in
    kept_on text c.self.inside.given c.self.inside.fault c.self.inside.fault c.self.inside.scanner c.scan.new.self c.self.inside.window.items c.self.inside.form.bytes.items c.self.inside.form.start c.self.inside.form.end c.self.invariant c.in-Ok-None.ensures.kept (λ _. after.0)

pub returns-in-None-clause-ok : goal.returns-in-None-clause-ok
returns-in-None-clause-ok c =
    let text : List ℕ = c.self.inside.input.bytes in
    let held : c.deref.result.now ≡ drop c.self.inside.scanner.kept text = c.deref.ensures.value ∙ c.self.invariant.window in
    let ready : IsReady c.self.inside.given text c.self.inside.scanner = c.self.invariant.ready c.in_default.is in
    let after : IsReady c.self.inside.given text c.scan.new.self × (c.scan.new.self.at.index ≡ length text) =
    subst (λ o. AfterScan (Ok o) c.self.inside.given text c.scan.new.self) c.in-Ok-None.field-0-is (c.in-Ok-None.ensures.read c.self.inside.given text held ready) in
    let again : c.deref-2.result.now ≡ drop c.scan.new.self.kept text = c.deref-2.ensures.value ∙ (c.self.invariant.window ∙ ap (λ k. drop k text) (sym c.in-Ok-None.ensures.kept)) in
    let fault : c.fault_at_end.result ≡ end_fault_of text =
    c.fault_at_end.ensures c.self.inside.given text again after.0 after.1 in
    let old : end_fault c.args.self.now.fault c.args.self.now.text ≡ end_fault_of text =
    sym (ap (λ o. end_fault o text) (sym c.in_default.is) ∙ ap (λ v. end_fault v.fault v.text) c.self.view_is) in
    (old ∙ (sym fault ∙ c.in-None.is), ap (λ (l : Lexing). let x : Lexing = record l { finished = true } in x) c.self.view_is)

pub returns-in-Some-fault_at_end-clause-stop : goal.returns-in-Some-fault_at_end-clause-stop
returns-in-Some-fault_at_end-clause-stop c =
    let text : List ℕ = c.self.inside.input.bytes in
    let held : c.deref.result.now ≡ drop c.self.inside.scanner.kept text = c.deref.ensures.value ∙ c.self.invariant.window in
    let ready : IsReady c.self.inside.given text c.self.inside.scanner = c.self.invariant.ready c.in_default.is in
    let after : IsReady c.self.inside.given text c.scan.new.self × (c.scan.new.self.at.index ≡ length text) =
    subst (λ o. AfterScan (Ok o) c.self.inside.given text c.scan.new.self) c.in-Ok-None.field-0-is (c.in-Ok-None.ensures.read c.self.inside.given text held ready) in
    let again : c.deref-2.result.now ≡ drop c.scan.new.self.kept text = c.deref-2.ensures.value ∙ (c.self.invariant.window ∙ ap (λ k. drop k text) (sym c.in-Ok-None.ensures.kept)) in
    let fault : c.fault_at_end.result ≡ end_fault_of text =
    c.fault_at_end.ensures c.self.inside.given text again after.0 after.1 in
    let old : end_fault c.args.self.now.fault c.args.self.now.text ≡ end_fault_of text =
    sym (ap (λ o. end_fault o text) (sym c.in_default.is) ∙ ap (λ v. end_fault v.fault v.text) c.self.view_is) in (
      old ∙ (sym fault ∙ c.in-Some-fault_at_end.is),
      ap (λ (l : Lexing). let x : Lexing = record l { fault = Some c.in-Some-fault_at_end.fault; finished = true } in x) c.self.view_is,
    )
