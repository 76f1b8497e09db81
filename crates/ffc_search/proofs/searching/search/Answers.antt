use Rattle.std.proofs.Common.{◌≡◌, [], Ok, sym, ap, ◌∙◌, subst}
use Rattle.ffc_trees.specs.TreeLines.{limits}
use Rattle.ffc_trees.specs.Trees.{tree_read}
use Rattle.ffc_trees.specs.Closing.{Closes}
use Rattle.ffc_stack.specs.Stacks.{generators}
use Rattle.ffc_search.specs.Finding.{OnValues, OnClosed, IsCommonZero}
use Rattle.ffc_search.proofs.AboveLemmas.{above_itself}
use Rattle.ffc_search.proofs.TreeLemmas.{on_closed}
use Rattle.ffc_search.proofs.searching.search.Goals as goal

pub returns-in_err-found-clause-unchanged : goal.returns-in_err-found-clause-unchanged
returns-in_err-found-clause-unchanged g c =
    let deep = sym c.depth-base.ensures in
    c.pop_to.ensures c.args.stack.now deep (c.attempt-outcome.ensures.above c.args.stack.now deep (above_itself c.args.stack.now))

pub returns-in_err-is_right-clause-unchanged : goal.returns-in_err-is_right-clause-unchanged
returns-in_err-is_right-clause-unchanged g c =
    let deep = sym c.depth-base.ensures in
    c.pop_to.ensures c.args.stack.now deep (c.attempt-outcome.ensures.above c.args.stack.now deep (above_itself c.args.stack.now))

pub returns-then-not-branch-clause-unchanged : goal.returns-then-not-branch-clause-unchanged
returns-then-not-branch-clause-unchanged g c =
    let deep = sym c.depth-base.ensures in
    c.pop_to.ensures c.args.stack.now deep (c.attempt-outcome.ensures.above c.args.stack.now deep (above_itself c.args.stack.now))

pub returns-clause-unchanged : goal.returns-clause-unchanged
returns-clause-unchanged g c =
    let deep = sym c.depth-base.ensures in
    c.pop_to.ensures c.args.stack.now deep (c.attempt-outcome.ensures.above c.args.stack.now deep (above_itself c.args.stack.now))

pub returns-clause-values : goal.returns-clause-values
returns-clause-values g c =
    let lines : c.lines.result.now ≡ c.args.stack.now.lines = c.lines.ensures.value ∙ ap (λ s. s.lines) (returns-clause-unchanged g c) in
    subst (λ ls. OnValues c.in_ok-found.found (IsCommonZero g.F.Field.ORDER (generators ls) c.args.vars.now)) lines (c.in_ok-is_right.ensures.values c.if-not-branch.false)

pub returns-clause-closed : goal.returns-clause-closed
returns-clause-closed g c =
    let lines : c.lines.result.now ≡ c.args.stack.now.lines = c.lines.ensures.value ∙ ap (λ s. s.lines) (returns-clause-unchanged g c) in
    subst (λ ls. OnClosed c.in_ok-found.found (λ tree. tree_read limits g.F.Field.ORDER (generators ls) tree ≡ Ok [])) lines (c.in_ok-is_right.ensures.closed c.if-not-branch.false)

pub returns-clause-closes : goal.returns-clause-closes
returns-clause-closes g c =
    let p = g.F.Field.ORDER in
    let gens = generators c.args.stack.now.lines in
    on_closed c.in_ok-found.found (λ tree. tree_read limits p gens tree ≡ Ok []) (λ tree. Closes limits p gens tree [])
    (λ tree read. c.read_trees_close.ensures.only limits p gens tree [] read) (returns-clause-closed g c)
