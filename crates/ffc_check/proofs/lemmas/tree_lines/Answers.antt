use Rattle.std.proofs.Common.{Err, ap, ◌∙◌, arith}
use Rattle.ffc_smt.proofs.SoundReading.{order_good}
use Rattle.ffc_check.proofs.TreeLemmas.{on_equalities, tree_taken, offset_near}
use Rattle.ffc_check.proofs.lemmas.tree_lines.Goals as goal

pub lemma_tree-requires-clause-order : goal.lemma_tree-requires-clause-order
lemma_tree-requires-clause-order c = order_good c.args.order c.requires.order

pub lemma_tree-requires-clause-equalities : goal.lemma_tree-requires-clause-equalities
lemma_tree-requires-clause-equalities c = on_equalities c.args.kept.now c.args.order c.args.literals.now c.requires.table c.requires.equalities

pub overflow_add-line-in-Err-Broken : goal.overflow_add-line-in-Err-Broken
overflow_add-line-in-Err-Broken c =
    let broken = c.in-Err-Broken.broken in
    omega (arith, offset_near c.args.kept.now c.args.order c.args.literals.now c.args.rest.now c.requires.order c.requires.equalities c.requires.small broken.offset broken.rule (c.lemma_tree.ensures.broken broken (c.in-Err-Broken.is ∙ ap Err c.in-Err-Broken.field-0-is)), c.requires.line)

pub returns-in-Ok-clause-given : goal.returns-in-Ok-clause-given
returns-in-Ok-clause-given c = tree_taken c.args.literals.now c.args.line c.in-Ok.used c.args.rest.now _ c.in-Ok.ensures.read c.in-Ok.ensures.within
