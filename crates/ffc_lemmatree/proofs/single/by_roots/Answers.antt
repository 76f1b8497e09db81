use Rattle.std.proofs.Common.{sym, ap, ◌∙◌}
use Rattle.std.proofs.lemmas.Bool.{false≢true}
use Rattle.std.proofs.lemmas.Result.{IfOk-weaker}
use Rattle.ffc_rules.specs.Entries.{NodeCheck}
use Rattle.ffc_lemmatree.specs.Trees.{IsRefutedByTree}
use Rattle.ffc_lemmatree.specs.Roots.{IsRefutedByRoots}
use Rattle.ffc_lemmatree.proofs.OneVariable.{few_enough, refuted_by_tree, refuted_as}
use Rattle.ffc_lemmatree.proofs.single.by_roots.Given.{Over}
use Rattle.ffc_lemmatree.proofs.single.by_roots.Goals as goal
use Rattle.ffc_lemmatree.proofs.single.by_roots.Goals.{Joined-ending-3, then-fits+in_ok-tree, else-fits}

-- what is refuted by the roots is refuted by the tree
by_tree : (g : Over) (c : Joined-ending-3 g) (check : NodeCheck) → IsRefutedByRoots check g.F.Field.ORDER c.args.reasons.now c.args.nodes c.args.variable c.args.equations.now c.args.disequations.now c.args.start c.args.steps.now c.args.ending
    → IsRefutedByTree check c.args.reasons.now c.ORDER.result c.in_ok-lits.lits.items c.if-fits.tree.items
by_tree g c check is =
    elim c.if-fits.branch [
      | then-fits+in_ok-tree w ↦
          refuted_as check c.args.reasons.now g.F.Field.ORDER c.ORDER.result _ c.in_ok-lits.lits.items _ c.if-fits.tree.items c.ORDER.ensures c.in_ok-lits.ensures (ap (λ v. v.items) w.tree-is ∙ w.in_ok-tree.ensures.lines)
          (refuted_by_tree check g.F.Field.ORDER c.args.reasons.now c.args.nodes c.args.variable c.args.equations.now c.args.disequations.now c.args.start c.args.steps.now c.args.ending is c.requires.short w.in_ok-tree.ensures.steps w.in_ok-tree.ensures.ending)
      | else-fits w ↦
          absurd (false≢true (sym w.if-fits.false ∙ c.fits.ensures.1 (few_enough check g.F.Field.ORDER c.args.reasons.now c.args.nodes c.args.variable c.args.equations.now c.args.disequations.now c.args.start c.args.steps.now c.args.ending is c.requires.short)))
    ]

pub returns-clause-readable : goal.returns-clause-readable
returns-clause-readable g c = IfOk-weaker c.by_tree.result _ _ (λ lines given check is. given check (by_tree g c check is)) c.by_tree.ensures.readable

pub returns-clause-right : goal.returns-clause-right
returns-clause-right g c = IfOk-weaker c.by_tree.result _ _ (λ lines given check is. given check (by_tree g c check is)) c.by_tree.ensures.right
