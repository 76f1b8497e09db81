use Rattle.std.proofs.Common.{All, arith, subst}
use Rattle.std.proofs.lemmas.List.{take_all}
use Rattle.ffc_lemmatree.specs.Written.{IsNormalStep, euclid_lines}
use Rattle.ffc_lemmatree.proofs.Writing.{all_with, euclid_with}
use Rattle.ffc_lemmatree.proofs.euclid.euclid_lines.Goals as goal

pub loop-step-preserved : goal.loop-step-preserved
loop-step-preserved g c =
    let xs = c.args.steps.now in
    let i = c.loop-step.step-index in
    let x = c.step-item.result in
    record {
      lines = euclid_with c.args.x c.loop-step.last c.loop-step.next xs i x c.loop-step.lines.items c.push.new.self.items (euclid_lines c.args.x c.args.start c.args.first xs) c.in_ok-step_line.field-0 c.loop-step-test.true c.step-item.is c.loop-step.invariant.lines c.in_ok-push.ensures.items c.in_ok-step_line.ensures.line;
      numbers = (let before = c.loop-step.invariant.numbers in omega arith);
      normal = all_with (IsNormalStep g.F.Field.ORDER) xs i x c.loop-step-test.true c.step-item.is c.loop-step.invariant.normal c.in_ok-step_line.ensures.normal;
    }

pub returns-clause-normal : goal.returns-clause-normal
returns-clause-normal g c = subst (All (IsNormalStep g.F.Field.ORDER)) (take_all c.loop-step.step-index c.args.steps.now c.loop-step-test.false) c.loop-step.invariant.normal
