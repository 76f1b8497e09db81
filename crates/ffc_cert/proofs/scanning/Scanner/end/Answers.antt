use Rattle.std.proofs.Common.{ap, sym, ◌∙◌, arith, Ok}
use Rattle.ffc_cert.specs.Reading.{open_fault}
use Rattle.ffc_cert.specs.Scan.{AfterScan, AfterStop}
use Rattle.ffc_cert.proofs.KeptLemmas.{done_end, no_entry, no_fault}
use Rattle.ffc_cert.proofs.scanning.Scanner.end.Goals as goal

pub unreachable-requires : goal.unreachable-requires
unreachable-requires c =
    let after : AfterScan (Ok c.in-Ok-Some.field-0) c.args.bits c.args.wanted c.args.self.now.progress.complete c.args.fed.now.bytes c.scan.new.self = c.in-Ok-Some.ensures.after in
    let found = rw c.in-Ok-Some.field-0-is at after in
    no_entry c.args.bits c.args.wanted c.args.self.now.progress.complete c.args.fed.now.bytes c.in-Ok-Some.field-0-0 found.0 c.requires.given

pub unreachable-requires-in-Err-Fault : goal.unreachable-requires-in-Err-Fault
unreachable-requires-in-Err-Fault c =
    let after : AfterStop c.in-Err-Fault.field-0 c.args.bits c.args.wanted c.args.self.now.progress.complete c.args.fed.now.bytes c.scan.new.self = c.in-Err-Fault.ensures.after in
    let found = rw c.in-Err-Fault.field-0-is at after in
    no_fault c.args.bits c.args.wanted c.args.self.now.progress.complete c.args.fed.now.bytes c.in-Err-Fault.field-0-0 found c.requires.faultless

pub fault_at_end-requires : goal.fault_at_end-requires
fault_at_end-requires c =
    let after : AfterScan (Ok c.in-Ok-None.field-0) c.args.bits c.args.wanted c.args.self.now.progress.complete c.args.fed.now.bytes c.scan.new.self = c.in-Ok-None.ensures.after in
    let found = rw c.in-Ok-None.field-0-is at after in
    record {
      bounded = found.0.bounded;
      line = omega (arith, found.0.line, found.0.within, found.0.limit, c.requires.size);
      complete = omega (arith, found.0.complete, found.0.within, found.0.limit, c.requires.size);
    }

pub returns-clause-after : goal.returns-clause-after
returns-clause-after c =
    let after : AfterScan (Ok c.in-Ok-None.field-0) c.args.bits c.args.wanted c.args.self.now.progress.complete c.args.fed.now.bytes c.scan.new.self = c.in-Ok-None.ensures.after in
    let found = rw c.in-Ok-None.field-0-is at after in
    c.fault_at_end.ensures ∙ ap open_fault (sym (done_end c.args.bits c.args.wanted c.args.self.now.progress.complete c.args.fed.now.bytes c.scan.new.self found.0 found.1.0 found.1.1).1)
