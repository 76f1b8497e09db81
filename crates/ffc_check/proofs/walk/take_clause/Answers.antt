use Rattle.std.proofs.lemmas.Result.{err_from_is_err_and}
use Rattle.ffc_check.specs.Judged.{judged_check}
use Rattle.ffc_check.proofs.AnswerLemmas.{refuses_broken}
use Rattle.ffc_check.proofs.GivenLemmas.{lemma_taken, lemma_refused, tree_line}
use Rattle.ffc_check.proofs.walk.take_clause.Goals as goal

pub returns-in_err-used-in-Lemma-clause-given : goal.returns-in_err-used-in-Lemma-clause-given
returns-in_err-used-in-Lemma-clause-given c =
    let p = err_from_is_err_and c.from_residual.result c.from_residual.ensures.1 in
    rw (p.1, p.2)
    (lemma_refused (judged_check c.args.check.now) c.args.state.now.clauses c.args.line c.args.rest.now c.in_err-used-in-Lemma.field-0.0 c.args.here.now c.in-Lemma.order c.in-Lemma.lits c.as_slice-literals.result.now c.in-Lemma.is c.as_slice-literals.ensures
    c.in_err-used-in-Lemma.ensures.given)

pub returns-in_ok-push-in-Lemma-clause-given : goal.returns-in_ok-push-in-Lemma-clause-given
returns-in_ok-push-in-Lemma-clause-given c =
    lemma_taken (judged_check c.args.check.now) c.args.state.now.clauses c.args.line c.args.rest.now c.push.new.self c.args.here.now c.in-Lemma.order c.in-Lemma.lits c.as_slice-literals.result.now c.as_slice-literals.result.now
    c.in_ok-used-in-Lemma.used c.in-Lemma.is c.as_slice-literals.ensures c.as_slice-literals.ensures c.in_ok-used-in-Lemma.ensures.given c.in_ok-push-in-Lemma.ensures

pub returns-in_default-clause-given : goal.returns-in_default-clause-given
returns-in_default-clause-given c =
    refuses_broken c.breaks.result 12 c.args.line _ c.breaks.ensures
    (tree_line (judged_check c.args.check.now) c.args.state.now.clauses c.args.line c.args.rest.now c.args.here.now c.in_default.not-Assume c.in_default.not-Scheme c.in_default.not-Hinted c.in_default.not-Lemma)
