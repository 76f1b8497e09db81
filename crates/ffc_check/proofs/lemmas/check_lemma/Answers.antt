use Rattle.std.proofs.Common.{◌≡◌, sym, ◌∙◌, subst, ℕ, List}
use Rattle.ffc_term.specs.declared.node.Node.{Node}
use Rattle.ffc_trees.specs.FirstLines.{first_lines}
use Rattle.ffc_trees.specs.TreeLines.{limits as tree_limits}
use Rattle.ffc_trees.specs.Trees.{tree_read}
use Rattle.ffc_rules.specs.Entries.{limits, order_or, tree_given, lemma_given}
use Rattle.ffc_check.specs.Answers.{Refuses, Gives}
use Rattle.ffc_check.specs.Giving.{IsTakenWith}
use Rattle.ffc_check.specs.Judged.{judged_check}
use Rattle.ffc_check.proofs.AnswerLemmas.{refuses_broken}
use Rattle.ffc_check.proofs.GivenLemmas.{order_named, no_order, other_nodes, too_large, by_tree}
use Rattle.ffc_check.proofs.lemmas.check_lemma.Goals as goal
use Rattle.ffc_check.proofs.lemmas.check_lemma.Goals.{After-unwrap_or-order}

-- the order of the lemma
named : (c : After-unwrap_or-order) → c.unwrap_or-order.result ≡ order_or c.args.check.now.first_order c.args.order
named c = c.unwrap_or-order.ensures ∙ order_named c.args.check.now.first_order c.args.order

pub returns-then-not-is_order-clause-given : goal.returns-then-not-is_order-clause-given
returns-then-not-is_order-clause-given c =
    let at = (goal.at.returns-then-not-is_order-clause-given c).After-unwrap_or-order in
    let Broken : ℕ → Type 0 = λ p. Refuses c.breaks.result (lemma_given limits (judged_check c.args.check.now) p c.args.literals.now c.args.line c.args.rest.now) in
    subst Broken (named at) (refuses_broken c.breaks.result 12 c.args.line _ c.breaks.ensures
    (no_order (judged_check c.args.check.now) c.unwrap_or-order.result c.args.literals.now c.args.line c.args.rest.now (sym c.is_order.ensures ∙ c.if-not-is_order.true)))

pub returns-then-not-are_equalities-clause-given : goal.returns-then-not-are_equalities-clause-given
returns-then-not-are_equalities-clause-given c =
    let at = (goal.at.returns-then-not-are_equalities-clause-given c).After-unwrap_or-order in
    let Broken : ℕ → Type 0 = λ p. Refuses c.breaks-then-not-are_equalities.result (lemma_given limits (judged_check c.args.check.now) p c.args.literals.now c.args.line c.args.rest.now) in
    subst Broken (named at) (refuses_broken c.breaks-then-not-are_equalities.result 12 c.args.line _ c.breaks-then-not-are_equalities.ensures
    (other_nodes (judged_check c.args.check.now) c.unwrap_or-order.result c.args.literals.now c.args.line c.args.rest.now (sym c.is_order.ensures ∙ c.if-not-is_order.false)
    (sym c.are_equalities.ensures ∙ c.if-not-are_equalities.true)))

pub returns-then-not-are_within-clause-given : goal.returns-then-not-are_within-clause-given
returns-then-not-are_within-clause-given c =
    let at = (goal.at.returns-then-not-are_within-clause-given c).After-unwrap_or-order in
    let Broken : ℕ → Type 0 = λ p. Refuses c.breaks-then-not-are_within.result (lemma_given limits (judged_check c.args.check.now) p c.args.literals.now c.args.line c.args.rest.now) in
    subst Broken (named at) (refuses_broken c.breaks-then-not-are_within.result 11 c.args.line _ c.breaks-then-not-are_within.ensures
    (too_large (judged_check c.args.check.now) c.unwrap_or-order.result c.args.literals.now c.args.line c.args.rest.now (sym c.is_order.ensures ∙ c.if-not-is_order.false)
    (sym c.are_equalities.ensures ∙ c.if-not-are_equalities.false) (sym c.are_within.ensures ∙ c.if-not-are_within.true)))

pub returns-clause-given : goal.returns-clause-given
returns-clause-given c =
    let at = (goal.at.returns-clause-given c).After-unwrap_or-order in
    let lits = c.args.literals.now in
    let rest = c.args.rest.now in
    let Judged : ℕ → Type 0 = λ p. Gives c.tree_lines.result (lemma_given limits (judged_check c.args.check.now) p lits c.args.line rest) (IsTakenWith lits rest) in
    let Read : List Node → Type 0 = λ ns. Gives c.tree_lines.result (tree_given lits c.args.line (tree_read tree_limits c.unwrap_or-order.result (first_lines ns c.unwrap_or-order.result lits) rest)) (IsTakenWith lits rest) in
    let tree = by_tree (judged_check c.args.check.now) c.unwrap_or-order.result lits c.args.line rest (sym c.is_order.ensures ∙ c.if-not-is_order.false)
    (sym c.are_equalities.ensures ∙ c.if-not-are_equalities.false) (sym c.are_within.ensures ∙ c.if-not-are_within.false) in
    subst Judged (named at) (subst (λ given. Gives c.tree_lines.result given (IsTakenWith lits rest)) (sym tree) (subst Read c.requires.kept c.tree_lines.ensures.given))
