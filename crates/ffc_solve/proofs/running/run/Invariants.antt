use Rattle.std.proofs.Common.{◌≡◌, ◌+◌, ◌-◌, ◌≤◌, length}
use Rattle.ffc_script.specs.Progress.{steps_of}
use Rattle.ffc_solve.proofs.ListLemmas.{between}
use Rattle.ffc_solve.proofs.RunLemmas.{IsGoing}
use Rattle.ffc_solve.proofs.running.run.Given as goal

-- the commands so far are answered
abbrev pub invariant-commands : goal.invariant-commands
invariant-commands g l = record {
  going : IsGoing l.dialogue (between (g.C.Sink.holds l.initial.cert) (g.C.Sink.holds l.cert)) (between (g.O.Sink.holds l.initial.out) (g.O.Sink.holds l.out)) (g.S.Source.left l.initial.script) (g.S.Source.left l.script);
  task : l.dialogue.task ≡ l.initial.dialogue.task;
  name : g.C.Sink.name l.cert ≡ g.C.Sink.name l.initial.cert;
  later_script : g.S.Source.faults l.initial.script ≤ g.S.Source.faults l.script;
  later_out : g.O.Sink.faults l.initial.out ≤ g.O.Sink.faults l.out;
  later_cert : g.C.Sink.faults l.initial.cert ≤ g.C.Sink.faults l.cert;
}

-- each time a command is taken or a byte is read
abbrev pub decreases-commands : goal.decreases-commands
decreases-commands g l = 134217731 - (length l.dialogue.reader.text + length (steps_of l.dialogue.reader))
