use Rattle.std.proofs.Common.{arith, ap, refl}
use Rattle.std.proofs.Math.Nat.{min-le_right}
use Rattle.std.proofs.lemmas.Grind.{common_steps}
use Rattle.ffc_verify.proofs.PieceLemmas.{HasRead-enough, HasRead-all, piece_takes, same_takes}
use Rattle.ffc_verify.proofs.stop.read_script.Goals as goal
use Rattle.ffc_verify.proofs.stop.read_script.Goals.{else-loop-buffer-test, then-loop-buffer-test+in-Ok+then-count-eq0}

pub returns-clause-ok : goal.returns-clause-ok
returns-clause-ok g c =
    elim c.loop-buffer-test.branch [
      | else-loop-buffer-test w ↦ HasRead-enough _ _ _ c.loop-buffer.invariant.read (omega (arith, c.loop-buffer.text.ok.0))
      | then-loop-buffer-test+in-Ok+then-count-eq0 w ↦
          HasRead-all _ _ _ _ _ _ c.loop-buffer.invariant.read w.in-Ok.ensures.moved (omega arith) (omega (arith, c.loop-buffer.text.ok.0))
    ]

pub returns-clause-taken : goal.returns-clause-taken
returns-clause-taken g c =
    let left = g.S.Source.left in
    elim c.loop-buffer-test.branch [
      | else-loop-buffer-test w ↦ same_takes _ _ _ _ c.loop-buffer.invariant.read (ap left w.script-is) (omega (arith, c.loop-buffer.text.ok.0))
      | then-loop-buffer-test+in-Ok+then-count-eq0 w ↦
          piece_takes _ _ _ _ _ _ _ c.loop-buffer.invariant.read w.in-Ok.ensures.moved (ap left w.script-is) (omega (arith, c.loop-buffer.text.ok.0))
    ]

pub returns-in_err-extend_from_slice-clause-taken : goal.returns-in_err-extend_from_slice-clause-taken
returns-in_err-extend_from_slice-clause-taken g c =
    piece_takes _ _ _ _ _ _ _ c.loop-buffer.invariant.read c.in-Ok.ensures.moved refl
    (first_of (omega (arith, c.loop-buffer.text.ok.0, min-le_right), grind (arith, common_steps, c.loop-buffer.text.ok.0)))
