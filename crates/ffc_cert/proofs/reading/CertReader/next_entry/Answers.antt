use Rattle.std.proofs.Common.{◌+◌, ◌∙◌, sym, refl, ap, Some, None, Ok, arith}
use Rattle.ffc_cert.specs.Scan.{AfterScan, AfterStop}
use Rattle.ffc_cert.proofs.TextLemmas.{given_readable, given_number, given_line}
use Rattle.ffc_cert.proofs.KeptLemmas.{entry_due, done_due, stopped_due, entry_no_fault, end_fault_due, kept_on}
use Rattle.ffc_cert.proofs.reading.CertReader.next_entry.Goals as goal

pub scan-requires-clause-window : goal.scan-requires-clause-window
scan-requires-clause-window c = rw c.deref.ensures.value c.self.invariant.window

pub invariant_of-self : goal.invariant_of-self
invariant_of-self c =
    let after : AfterScan (Ok c.in-Ok-Some.field-0) c.self.inside.bits c.self.inside.wanted c.self.inside.scanner.progress.complete c.self.inside.fed.bytes c.scan.new.self = c.in-Ok-Some.ensures.after in
    let found = rw c.in-Ok-Some.field-0-is at after in
    let count = c.self.invariant.count c.in-None.is in
    kept_on c.self.inside.bits c.self.inside.wanted c.self.inside.given (c.self.inside.given + 1) c.self.inside.fed.bytes c.self.inside.window.items c.self.inside.fault c.self.inside.fault c.self.inside.scanner c.scan.new.self c.self.inside.version c.self.invariant c.in-Ok-Some.ensures.gone
    (λ _. found.1.0) (λ _. found.1.1 ∙ ap (λ n. n + 1) count)

pub invariant_of-self-in-Ok-None : goal.invariant_of-self-in-Ok-None
invariant_of-self-in-Ok-None c =
    let after : AfterScan (Ok c.in-Ok-None.field-0) c.self.inside.bits c.self.inside.wanted c.self.inside.scanner.progress.complete c.self.inside.fed.bytes c.scan.new.self = c.in-Ok-None.ensures.after in
    let found = rw c.in-Ok-None.field-0-is at after in
    let count = c.self.invariant.count c.in-None.is in
    kept_on c.self.inside.bits c.self.inside.wanted c.self.inside.given c.self.inside.given c.self.inside.fed.bytes c.self.inside.window.items c.self.inside.fault c.self.inside.fault c.self.inside.scanner c.scan.new.self c.self.inside.version c.self.invariant c.in-Ok-None.ensures.gone
    (λ _. found.0) (λ _. found.1.1 ∙ count)

pub invariant_of-self-in-Err-Memory : goal.invariant_of-self-in-Err-Memory
invariant_of-self-in-Err-Memory c =
    let after : AfterStop c.in-Err-Memory.field-0 c.self.inside.bits c.self.inside.wanted c.self.inside.scanner.progress.complete c.self.inside.fed.bytes c.scan.new.self = c.in-Err-Memory.ensures.after in
    let found = rw c.in-Err-Memory.field-0-is at after in
    let count = c.self.invariant.count c.in-None.is in
    kept_on c.self.inside.bits c.self.inside.wanted c.self.inside.given c.self.inside.given c.self.inside.fed.bytes c.self.inside.window.items c.self.inside.fault c.self.inside.fault c.self.inside.scanner c.scan.new.self c.self.inside.version c.self.invariant c.in-Err-Memory.ensures.gone
    (λ _. found.0) (λ _. found.1 ∙ count)

pub returns-in-Ok-Some-clause-entry : goal.returns-in-Ok-Some-clause-entry
returns-in-Ok-Some-clause-entry c =
    let after : AfterScan (Ok c.in-Ok-Some.field-0) c.self.inside.bits c.self.inside.wanted c.self.inside.scanner.progress.complete c.self.inside.fed.bytes c.scan.new.self = c.in-Ok-Some.ensures.after in
    let found = rw c.in-Ok-Some.field-0-is at after in
    let count = c.self.invariant.count c.in-None.is in
    let due = entry_due c.self.inside.bits c.self.inside.wanted c.self.inside.scanner.progress.complete c.self.inside.given c.self.inside.fed.bytes c.in-Ok-Some.entry found.0 count in
    rw (← c.self.view_is, c.in-None.is) (sym due)

pub returns-in-Ok-Some-clause-readable : goal.returns-in-Ok-Some-clause-readable
returns-in-Ok-Some-clause-readable c =
    let after : AfterScan (Ok c.in-Ok-Some.field-0) c.self.inside.bits c.self.inside.wanted c.self.inside.scanner.progress.complete c.self.inside.fed.bytes c.scan.new.self = c.in-Ok-Some.ensures.after in
    let found = rw c.in-Ok-Some.field-0-is at after in
    let count = c.self.invariant.count c.in-None.is in
    let due = entry_due c.self.inside.bits c.self.inside.wanted c.self.inside.scanner.progress.complete c.self.inside.given c.self.inside.fed.bytes c.in-Ok-Some.entry found.0 count in
    rw (← c.self.view_is) (given_readable c.self.inside.bits c.self.inside.wanted c.self.inside.fed.bytes c.self.inside.given c.in-Ok-Some.entry due)

pub returns-in-Ok-Some-clause-number : goal.returns-in-Ok-Some-clause-number
returns-in-Ok-Some-clause-number c =
    let after : AfterScan (Ok c.in-Ok-Some.field-0) c.self.inside.bits c.self.inside.wanted c.self.inside.scanner.progress.complete c.self.inside.fed.bytes c.scan.new.self = c.in-Ok-Some.ensures.after in
    let found = rw c.in-Ok-Some.field-0-is at after in
    let count = c.self.invariant.count c.in-None.is in
    let due = entry_due c.self.inside.bits c.self.inside.wanted c.self.inside.scanner.progress.complete c.self.inside.given c.self.inside.fed.bytes c.in-Ok-Some.entry found.0 count in
    rw (← c.self.view_is) (given_number c.self.inside.bits c.self.inside.wanted c.self.inside.fed.bytes c.self.inside.given c.in-Ok-Some.entry due)

pub returns-in-Ok-Some-clause-first_line : goal.returns-in-Ok-Some-clause-first_line
returns-in-Ok-Some-clause-first_line c =
    let after : AfterScan (Ok c.in-Ok-Some.field-0) c.self.inside.bits c.self.inside.wanted c.self.inside.scanner.progress.complete c.self.inside.fed.bytes c.scan.new.self = c.in-Ok-Some.ensures.after in
    let found = rw c.in-Ok-Some.field-0-is at after in
    let count = c.self.invariant.count c.in-None.is in
    let due = entry_due c.self.inside.bits c.self.inside.wanted c.self.inside.scanner.progress.complete c.self.inside.given c.self.inside.fed.bytes c.in-Ok-Some.entry found.0 count in
    let line = given_line c.self.inside.bits c.self.inside.wanted c.self.inside.fed.bytes c.self.inside.given c.in-Ok-Some.entry due in
    omega (arith, line, c.self.invariant.size)

pub returns-in-Ok-Some-clause-no_fault : goal.returns-in-Ok-Some-clause-no_fault
returns-in-Ok-Some-clause-no_fault c =
    let after : AfterScan (Ok c.in-Ok-Some.field-0) c.self.inside.bits c.self.inside.wanted c.self.inside.scanner.progress.complete c.self.inside.fed.bytes c.scan.new.self = c.in-Ok-Some.ensures.after in
    let found = rw c.in-Ok-Some.field-0-is at after in
    let count = c.self.invariant.count c.in-None.is in
    let due = entry_due c.self.inside.bits c.self.inside.wanted c.self.inside.scanner.progress.complete c.self.inside.given c.self.inside.fed.bytes c.in-Ok-Some.entry found.0 count in
    rw (← c.self.view_is, c.in-None.is) (entry_no_fault c.self.inside.bits c.self.inside.wanted c.self.inside.given c.self.inside.fed.bytes c.in-Ok-Some.entry due)

pub returns-in-Ok-None-clause-entry : goal.returns-in-Ok-None-clause-entry
returns-in-Ok-None-clause-entry c =
    let after : AfterScan (Ok c.in-Ok-None.field-0) c.self.inside.bits c.self.inside.wanted c.self.inside.scanner.progress.complete c.self.inside.fed.bytes c.scan.new.self = c.in-Ok-None.ensures.after in
    let found = rw c.in-Ok-None.field-0-is at after in
    let count = c.self.invariant.count c.in-None.is in
    let d = done_due c.self.inside.bits c.self.inside.wanted c.self.inside.given c.self.inside.fed.bytes c.scan.new.self found.0 found.1.0 (found.1.1 ∙ count) in
    rw (← c.self.view_is, c.in-None.is) (sym d.0)

pub returns-in-Ok-None-clause-no_fault : goal.returns-in-Ok-None-clause-no_fault
returns-in-Ok-None-clause-no_fault c =
    let after : AfterScan (Ok c.in-Ok-None.field-0) c.self.inside.bits c.self.inside.wanted c.self.inside.scanner.progress.complete c.self.inside.fed.bytes c.scan.new.self = c.in-Ok-None.ensures.after in
    let found = rw c.in-Ok-None.field-0-is at after in
    let count = c.self.invariant.count c.in-None.is in
    let d = done_due c.self.inside.bits c.self.inside.wanted c.self.inside.given c.self.inside.fed.bytes c.scan.new.self found.0 found.1.0 (found.1.1 ∙ count) in
    rw (← c.self.view_is, c.in-None.is) (end_fault_due c.self.inside.bits c.self.inside.wanted c.self.inside.given c.self.inside.fed.bytes None d)

pub returns-in-Err-Fault-clause-stop : goal.returns-in-Err-Fault-clause-stop
returns-in-Err-Fault-clause-stop c =
    let after : AfterStop c.in-Err-Fault.field-0 c.self.inside.bits c.self.inside.wanted c.self.inside.scanner.progress.complete c.self.inside.fed.bytes c.scan.new.self = c.in-Err-Fault.ensures.after in
    let found = rw c.in-Err-Fault.field-0-is at after in
    let count = c.self.invariant.count c.in-None.is in
    let d = stopped_due c.self.inside.bits c.self.inside.wanted c.self.inside.scanner.progress.complete c.self.inside.given c.self.inside.fed.bytes c.in-Err-Fault.fault found count in
    rw (← c.self.view_is, c.in-None.is) (end_fault_due c.self.inside.bits c.self.inside.wanted c.self.inside.given c.self.inside.fed.bytes (Some c.in-Err-Fault.fault) d, refl)
