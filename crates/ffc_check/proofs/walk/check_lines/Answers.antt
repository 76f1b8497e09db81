use Rattle.std.proofs.Common.{◌+◌, ◌-◌, length, sym, ap, ◌∙◌, subst, arith}
use Rattle.std.proofs.lemmas.List.{drop_all, length-drop, take_rest}
use Rattle.std.proofs.lemmas.Result.{err_from_is_err_and}
use Rattle.ffc_rules.specs.Entries.{limits, lines_fault}
use Rattle.ffc_check.specs.Answers.{Names}
use Rattle.ffc_check.specs.Judged.{judged_check}
use Rattle.ffc_check.proofs.AnswerLemmas.{names_broken}
use Rattle.ffc_check.proofs.WalkLemmas.{goes_on, is_broken, at_end}
use Rattle.ffc_check.proofs.walk.check_lines.Goals as goal

pub returns-in_err-used : goal.returns-in_err-used
returns-in_err-used c =
    let p = err_from_is_err_and c.from_residual.result c.from_residual.ensures.1 in
    rw (p.1, p.2)
    (subst (Names c.in_err-used.field-0.0) c.loop-i.invariant.so_far
    (is_broken limits (judged_check c.args.check.now) c.loop-i.state.clauses c.take_clause.new.state.clauses c.args.lines.now _ c.loop-i.i c.args.line c.loop-i-test.true c.index-lines-i.result c.index-lines-i.is (take_rest c.args.lines.now (c.loop-i.i + 1))
    c.in_err-used.field-0.0 c.in_err-used.ensures.given))

pub loop-i-preserved : goal.loop-i-preserved
loop-i-preserved c =
    let given = c.in_ok-used.ensures.given in
    record {
      inside = omega (arith, c.loop-i-test.true, given.2.taken.few, ap length (take_rest c.args.lines.now (c.loop-i.i + 1)), length-drop (c.loop-i.i + 1) c.args.lines.now);
      nothing = c.in_ok-used.ensures.nothing;
      kept = c.in_ok-used.ensures.kept ∙ c.loop-i.invariant.kept;
      so_far = goes_on limits (judged_check c.args.check.now) c.loop-i.state.clauses c.take_clause.new.state.clauses c.args.lines.now _ c.loop-i.i c.args.line c.loop-i-test.true c.index-lines-i.result c.index-lines-i.is (take_rest c.args.lines.now (c.loop-i.i + 1))
          c.in_ok-used.used given.0 given.1 given.2
          ∙ c.loop-i.invariant.so_far;
    }

pub returns-then-ends_empty : goal.returns-then-ends_empty
returns-then-ends_empty c =
    let check = judged_check c.args.check.now in
    sym c.loop-i.invariant.so_far ∙ ap (lines_fault limits check c.loop-i.state.clauses (c.args.line + c.loop-i.i) 0) (drop_all c.loop-i.i c.args.lines.now c.loop-i-test.false)
    ∙ at_end limits check c.loop-i.state.clauses (c.args.line + c.loop-i.i) _ (sym c.ends_empty.ensures ∙ c.if-ends_empty.true)

pub returns : goal.returns
returns c =
    let check = judged_check c.args.check.now in
    names_broken c.breaks.result 9 (c.args.line + c.loop-i.i - 1) _ c.breaks.ensures
    (sym c.loop-i.invariant.so_far ∙ ap (lines_fault limits check c.loop-i.state.clauses (c.args.line + c.loop-i.i) 0) (drop_all c.loop-i.i c.args.lines.now c.loop-i-test.false)
    ∙ at_end limits check c.loop-i.state.clauses (c.args.line + c.loop-i.i) _ (sym c.ends_empty.ensures ∙ c.if-ends_empty.false))
