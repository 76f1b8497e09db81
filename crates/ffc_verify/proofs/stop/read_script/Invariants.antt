use Rattle.std.proofs.Common.{◌≤◌, ◌-◌, vec_len}
use Rattle.ffc_verify.proofs.PieceLemmas.{HasRead}
use Rattle.ffc_verify.proofs.stop.read_script.Given as goal

-- the text is what was read so far
abbrev pub invariant-loop-buffer : goal.invariant-loop-buffer
invariant-loop-buffer g l =
    record {
      few : vec_len l.text ≤ 67108865;
      later : g.S.Source.faults l.initial.script ≤ g.S.Source.faults l.script;
      read : HasRead (g.S.Source.left l.initial.script) (g.S.Source.left l.script) l.text.items;
    }

abbrev pub decreases-loop-buffer : goal.decreases-loop-buffer
decreases-loop-buffer g l = 67108865 - vec_len l.text
