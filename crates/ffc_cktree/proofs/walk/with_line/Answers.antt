use Rattle.std.proofs.Common.{◌∷◌, ◌++◌, [], length, reverse, sym, ap, ◌∙◌, subst, arith, length-append}
use Rattle.ffc_trees.specs.Trees.{Open}
use Rattle.ffc_cktree.specs.Lines.{AreLines}
use Rattle.ffc_cktree.specs.Waiting.{branches_of}
use Rattle.ffc_cktree.proofs.WalkLemmas.{lines_push, stacked_more, branches_push}
use Rattle.ffc_cktree.proofs.walk.with_line.Goals as goal

pub invariant_of-result : goal.invariant_of-result
invariant_of-result g c =
    let p = g.F.Field.ORDER in
    let lines = c.args.lines.items in
    let items = c.in_ok-push.ensures.items in (
      subst (AreLines p) (sym items) (lines_push p lines c.args.line c.requires.lines c.requires.normal c.requires.low),
      stacked_more p (length lines) (length c.push.new.self.items) (reverse c.args.waiting.items) (omega (arith, ap length items, length-append lines (c.args.line ∷ []))) c.requires.stacked,
      tt,
    )

pub returns : goal.returns
returns g c =
    let p = g.F.Field.ORDER in
    let lines = c.args.lines.items in
    let cases = reverse c.args.waiting.items in
    ap (λ ls. Open (ls ∷ branches_of p ls cases)) c.in_ok-push.ensures.items
    ∙ ap (λ bs. Open ((lines ++ c.args.line ∷ []) ∷ bs)) (branches_push p lines c.args.line cases c.requires.stacked)
