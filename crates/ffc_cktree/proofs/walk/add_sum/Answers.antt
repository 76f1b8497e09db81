use Rattle.std.proofs.Common.{◌∷◌, ◌++◌, [], ◌<◌, reverse, sym, subst, arith}
use Rattle.ffc_trees.specs.TreeLines.{limits, combine_line}
use Rattle.ffc_trees.specs.Trees.{Stage, Open, with_line}
use Rattle.ffc_trees.specs.Same.{IsSameStage}
use Rattle.ffc_cktree.specs.Lines.{Gives}
use Rattle.ffc_cktree.specs.Waiting.{branches_of}
use Rattle.ffc_cktree.proofs.WalkLemmas.{push_alike, branches_alike, kept_leads}
use Rattle.ffc_cktree.proofs.walk.add_sum.Goals as goal

pub returns-clause-kept : goal.returns-clause-kept
returns-clause-kept g c =
    let p = g.F.Field.ORDER in
    let some : 0 < p = omega (arith, g.met.F.Field.prime.least) in
    let lines = c.args.lines.items in
    let cases = reverse c.args.waiting.items in
    let others = branches_of p lines cases in
    let gives : Gives p (combine_line limits p lines c.args.multiples.now) c.in_ok-sum.sum = subst (λ l. Gives p (combine_line limits p l c.args.multiples.now) c.in_ok-sum.sum) c.as_slice.ensures.value c.in_ok-sum.ensures.kept in
    kept_leads p (with_line lines others) (combine_line limits p lines c.args.multiples.now) gives.line c.in_ok-next.next gives.kept
    (subst (λ (s : Stage). IsSameStage p s (Open ((lines ++ gives.line ∷ []) ∷ others))) (sym c.in_ok-next.ensures)
    (push_alike p lines c.in_ok-sum.sum gives.line c.requires.lines gives.same, branches_alike p lines cases some c.requires.lines))
