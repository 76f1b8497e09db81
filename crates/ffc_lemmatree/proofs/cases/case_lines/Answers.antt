use Rattle.ffc_lemmatree.specs.Written.{IsNormalCase}
use Rattle.ffc_lemmatree.proofs.Writing.{all_with, case_with}
use Rattle.ffc_lemmatree.proofs.cases.case_lines.Goals as goal

pub loop-case-preserved : goal.loop-case-preserved
loop-case-preserved g c =
    let xs = c.args.cases.now in
    let i = c.loop-case.case-index in
    let x = c.case-item.result in
    record {
      lines = case_with g.F.Field.ORDER c.args.numbers xs i x c.loop-case.lines.items c.push.new.self.items c.push-in-loop-case.new.self.items c.in_ok-case_line.field-0 c.loop-case-test.true c.case-item.is c.loop-case.invariant.lines c.in_ok-push.ensures.items c.in_ok-push-2.ensures.items c.in_ok-case_line.ensures.line;
      normal = all_with (IsNormalCase g.F.Field.ORDER) xs i x c.loop-case-test.true c.case-item.is c.loop-case.invariant.normal c.in_ok-case_line.ensures.normal;
    }
