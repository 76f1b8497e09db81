use Rattle.std.proofs.Common.{◌+◌, get_or, drop, sym, ap, ◌∙◌}
use Rattle.std.proofs.lemmas.List.{drop_more, drop_all}
use Rattle.ffc_clause.specs.Hints.{is_contradiction}
use Rattle.ffc_check.proofs.HintLemmas.{closed_step, several_step, one_step, last_hint, no_hints}
use Rattle.ffc_check.proofs.hints.contradicts.Goals as goal

pub returns-in-Closed : goal.returns-in-Closed
returns-in-Closed c =
    let clauses = c.args.clauses.now in
    let hints = c.args.hints.now in
    let i = c.loop-i.i in
    sym (sym c.loop-i.invariant ∙ ap (is_contradiction clauses c.loop-i.assumed) (drop_more hints i 0 c.loop-i-test.true)
    ∙ closed_step clauses c.loop-i.assumed (get_or hints i 0) c.clause.result.now c.clause.ensures (drop (i + 1) hints) c.in-Closed.ensures
    ∙ last_hint hints i c.loop-i-test.true)

pub returns-in-Several : goal.returns-in-Several
returns-in-Several c =
    let clauses = c.args.clauses.now in
    let hints = c.args.hints.now in
    let i = c.loop-i.i in
    sym (sym c.loop-i.invariant ∙ ap (is_contradiction clauses c.loop-i.assumed) (drop_more hints i 0 c.loop-i-test.true)
    ∙ several_step clauses c.loop-i.assumed (get_or hints i 0) c.clause.result.now c.clause.ensures (drop (i + 1) hints) c.in-Several.ensures)

pub loop-i-preserved : goal.loop-i-preserved
loop-i-preserved c =
    let clauses = c.args.clauses.now in
    let hints = c.args.hints.now in
    let i = c.loop-i.i in
    ap (λ assumed. is_contradiction clauses assumed (drop (i + 1) hints)) c.in_ok-assume-in-One.ensures
    ∙ sym (one_step clauses c.loop-i.assumed (get_or hints i 0) c.clause.result.now c.clause.ensures (drop (i + 1) hints) c.in-One.literal c.in-One.ensures)
    ∙ sym (ap (is_contradiction clauses c.loop-i.assumed) (drop_more hints i 0 c.loop-i-test.true)) ∙ c.loop-i.invariant

pub returns : goal.returns
returns c =
    let clauses = c.args.clauses.now in
    let hints = c.args.hints.now in
    sym (sym c.loop-i.invariant ∙ ap (is_contradiction clauses c.loop-i.assumed) (drop_all c.loop-i.i hints c.loop-i-test.false) ∙ no_hints clauses c.loop-i.assumed)
