use Rattle.ffc_solve.proofs.AdvanceLemmas.{cut_here, err_weaker, holds_moved, ok_weaker}
use Rattle.ffc_solve.proofs.dialogue.Dialogue.advance.Goals as goal

pub returns-in-Ok-Some-clause-ok : goal.returns-in-Ok-Some-clause-ok
returns-in-Ok-Some-clause-ok g c =
    let s = c.args.self.now in
    let gives = rw c.in-Ok-Some.field-0-is at c.in-Ok-Some.ensures.some in
    ok_weaker c.answer.result _ _ (λ a h. λ entries l holds. h s.reader entries l (holds_moved s.reader c.next_command.new.self s entries l holds) gives) c.answer.ensures.ok

pub returns-in-Ok-Some-clause-err : goal.returns-in-Ok-Some-clause-err
returns-in-Ok-Some-clause-err g c =
    let s = c.args.self.now in
    let gives = rw c.in-Ok-Some.field-0-is at c.in-Ok-Some.ensures.some in
    err_weaker c.answer.result _ _ (λ h. λ entries l more holds. h s.reader entries l more (holds_moved s.reader c.next_command.new.self s entries l holds) gives) c.answer.ensures.err

pub returns-in-Memory-clause-err : goal.returns-in-Memory-clause-err
returns-in-Memory-clause-err g c = λ entries l more holds. cut_here c.args.self.now entries l more _ _ holds c.steps_come_first.ensures
