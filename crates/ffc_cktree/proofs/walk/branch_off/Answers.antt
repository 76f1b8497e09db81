use Rattle.std.proofs.Common.{◌≡◌, ◌++◌, length, reverse, sym, ap, ◌∙◌, subst, arith}
use Rattle.std.proofs.lemmas.Result.{IfOk-weaker}
use Rattle.ffc_trees.specs.TreeLines.{case_lines}
use Rattle.ffc_trees.specs.Trees.{Open}
use Rattle.ffc_trees.specs.Same.{IsSameStage}
use Rattle.ffc_cktree.specs.Waiting.{cases_at, branches_of, AreStacked}
use Rattle.ffc_cktree.proofs.WalkLemmas.{stacked_cases, cases_are}
use Rattle.ffc_cktree.proofs.walk.branch_off.Goals as goal

pub next_branch-requires-clause-stacked : goal.next_branch-requires-clause-stacked
next_branch-requires-clause-stacked g c =
    let p = g.F.Field.ORDER in
    let lines = c.args.lines.items in
    let old = reverse c.args.waiting.items in
    let mark : c.len.result ≡ length lines = omega (arith, c.len.ensures, c.args.lines.ok) in
    let pushed = c.in_ok-push_cases.ensures ∙ ap (λ n. cases_at n c.args.x c.args.roots.now ++ old) mark in
    subst (AreStacked p (length lines)) (sym pushed) (stacked_cases p (length lines) c.args.x c.args.roots.now old c.requires.residues c.requires.stacked)

pub returns : goal.returns
returns g c =
    let p = g.F.Field.ORDER in
    let lines = c.args.lines.items in
    let old = reverse c.args.waiting.items in
    let mark : c.len.result ≡ length lines = omega (arith, c.len.ensures, c.args.lines.ok) in
    let pushed = c.in_ok-push_cases.ensures ∙ ap (λ n. cases_at n c.args.x c.args.roots.now ++ old) mark in
    let cases = ap (branches_of p lines) pushed ∙ cases_are p lines c.args.x c.args.roots.now old in
    IfOk-weaker c.next_branch.result _ (λ w. IsSameStage p w (Open (case_lines p lines c.args.x c.args.roots.now ++ branches_of p lines old)))
    (λ w h. subst (λ bs. IsSameStage p w (Open bs)) cases h) c.next_branch.ensures
