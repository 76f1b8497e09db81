use Rattle.std.proofs.Common.{◌≡◌, Option, ◌∙◌, ap, sym, Some, Ok, Err, true}
use Rattle.ffc_cert.specs.declared.entries.CertFault.{CertFault}
use Rattle.ffc_cert.specs.Reading.{reading_of, stop_fault, open_fault}
use Rattle.ffc_cert.specs.Scan.{AfterEnd}
use Rattle.ffc_cert.specs.Certificate.{Certificate, next_entry_of, end_fault}
use Rattle.ffc_cert.proofs.KeptLemmas.{read_out, kept_on}
use Rattle.ffc_cert.proofs.reading.CertReader.finish.Goals as goal

pub end-requires-clause-window : goal.end-requires-clause-window
end-requires-clause-window c = rw c.deref.ensures.value c.self.invariant.window

pub end-requires-clause-given : goal.end-requires-clause-given
end-requires-clause-given c =
    let out = read_out c.args.self.now c.requires (sym (ap (λ (v : Certificate). v.fault) c.self.view_is) ∙ c.in-None.is) in
    ap (next_entry_of c.self.inside.bits c.self.inside.wanted c.self.inside.fed.bytes) (c.self.invariant.count c.in-None.is)
    ∙ (ap (λ (v : Certificate). next_entry_of v.bits v.wanted v.text v.given) c.self.view_is ∙ out.0)

pub end-requires-clause-faultless : goal.end-requires-clause-faultless
end-requires-clause-faultless c =
    let out = read_out c.args.self.now c.requires (sym (ap (λ (v : Certificate). v.fault) c.self.view_is) ∙ c.in-None.is) in
    ap (λ (v : Certificate). stop_fault (reading_of v.bits v.wanted v.text).end) c.self.view_is ∙ out.1

pub invariant_of-self-in-Ok-None : goal.invariant_of-self-in-Ok-None
invariant_of-self-in-Ok-None c =
    kept_on c.self.inside.bits c.self.inside.wanted c.self.inside.given c.self.inside.given c.self.inside.fed.bytes c.self.inside.window.items c.self.inside.fault c.self.inside.fault c.self.inside.scanner c.end.new.self c.self.inside.version c.self.invariant c.end.ensures.gone
    (λ _. c.end.ensures.ready) (λ none. c.end.ensures.complete ∙ c.self.invariant.count c.in-None.is)

pub invariant_of-self-in-Ok-Some : goal.invariant_of-self-in-Ok-Some
invariant_of-self-in-Ok-Some c =
    kept_on c.self.inside.bits c.self.inside.wanted c.self.inside.given c.self.inside.given c.self.inside.fed.bytes c.self.inside.window.items c.self.inside.fault (Some c.in-Ok-Some.fault) c.self.inside.scanner c.end.new.self c.self.inside.version c.self.invariant c.end.ensures.gone
    (λ _. c.end.ensures.ready) (λ none. c.end.ensures.complete ∙ c.self.invariant.count c.in-None.is)

pub invariant_of-self-in-Err : goal.invariant_of-self-in-Err
invariant_of-self-in-Err c =
    kept_on c.self.inside.bits c.self.inside.wanted c.self.inside.given c.self.inside.given c.self.inside.fed.bytes c.self.inside.window.items c.self.inside.fault c.self.inside.fault c.self.inside.scanner c.end.new.self c.self.inside.version c.self.invariant c.end.ensures.gone
    (λ _. c.end.ensures.ready) (λ none. c.end.ensures.complete ∙ c.self.invariant.count c.in-None.is)

pub returns-in-Ok-None-clause-ok : goal.returns-in-Ok-None-clause-ok
returns-in-Ok-None-clause-ok c =
    let end : AfterEnd (Ok c.in-Ok-None.field-0) c.self.inside.bits c.self.inside.wanted c.self.inside.fed.bytes = c.in-Ok-None.ensures.after in
    let old : end_fault c.args.self.now.fault c.args.self.now.bits c.args.self.now.wanted c.args.self.now.text ≡ open_fault (reading_of c.self.inside.bits c.self.inside.wanted c.self.inside.fed.bytes).end =
    sym (ap (λ (o : Option CertFault). end_fault o c.self.inside.bits c.self.inside.wanted c.self.inside.fed.bytes) (sym c.in-None.is) ∙ ap (λ (v : Certificate). end_fault v.fault v.bits v.wanted v.text) c.self.view_is) in
    (old ∙ (sym end ∙ c.in-Ok-None.field-0-is), ap (λ (v : Certificate). let x : Certificate = record v { finished = true } in x) c.self.view_is)

pub returns-in-Ok-Some-clause-stop : goal.returns-in-Ok-Some-clause-stop
returns-in-Ok-Some-clause-stop c =
    let end : AfterEnd (Ok c.in-Ok-Some.field-0) c.self.inside.bits c.self.inside.wanted c.self.inside.fed.bytes = c.in-Ok-Some.ensures.after in
    let old : end_fault c.args.self.now.fault c.args.self.now.bits c.args.self.now.wanted c.args.self.now.text ≡ open_fault (reading_of c.self.inside.bits c.self.inside.wanted c.self.inside.fed.bytes).end =
    sym (ap (λ (o : Option CertFault). end_fault o c.self.inside.bits c.self.inside.wanted c.self.inside.fed.bytes) (sym c.in-None.is) ∙ ap (λ (v : Certificate). end_fault v.fault v.bits v.wanted v.text) c.self.view_is) in
    (old ∙ (sym end ∙ c.in-Ok-Some.field-0-is), ap (λ (v : Certificate). let x : Certificate = record v { fault = Some c.in-Ok-Some.fault; finished = true } in x) c.self.view_is)

pub returns-in-Err-clause-stop : goal.returns-in-Err-clause-stop
returns-in-Err-clause-stop c =
    let end : AfterEnd (Err c.in-Err.stop) c.self.inside.bits c.self.inside.wanted c.self.inside.fed.bytes = c.in-Err.ensures.after in
    rw end c.self.view_is
