use Rattle.std.proofs.Common.{◌∷◌, ◌++◌, [], ◌<◌, reverse, sym, subst, arith}
use Rattle.ffc_trees.specs.TreeLines.{limits}
use Rattle.ffc_trees.specs.BitLines.{bits_line}
use Rattle.ffc_trees.specs.Trees.{Stage, Open, with_line}
use Rattle.ffc_trees.specs.Same.{IsSameStage}
use Rattle.ffc_cktree.specs.Lines.{Gives}
use Rattle.ffc_cktree.specs.Waiting.{branches_of}
use Rattle.ffc_cktree.proofs.WalkLemmas.{push_alike, branches_alike, kept_leads}
use Rattle.ffc_cktree.proofs.walk.add_bits.Goals as goal

pub returns-clause-kept : goal.returns-clause-kept
returns-clause-kept g c =
    let p = g.F.Field.ORDER in
    let some : 0 < p = omega (arith, g.met.F.Field.prime.least) in
    let lines = c.args.lines.items in
    let cases = reverse c.args.waiting.items in
    let others = branches_of p lines cases in
    let gives : Gives p (bits_line limits p lines c.args.k c.args.chosen.now c.args.written.now c.args.numbers.now) c.in_ok-line.line = subst (λ l. Gives p (bits_line limits p l c.args.k c.args.chosen.now c.args.written.now c.args.numbers.now) c.in_ok-line.line) c.as_slice.ensures.value c.in_ok-line.ensures.kept in
    kept_leads p (with_line lines others) (bits_line limits p lines c.args.k c.args.chosen.now c.args.written.now c.args.numbers.now) gives.line c.in_ok-next.next gives.kept
    (subst (λ (s : Stage). IsSameStage p s (Open ((lines ++ gives.line ∷ []) ∷ others))) (sym c.in_ok-next.ensures)
    (push_alike p lines c.in_ok-line.line gives.line c.requires.lines gives.same, branches_alike p lines cases some c.requires.lines))
