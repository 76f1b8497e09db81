use Rattle.std.proofs.Common.{[], Err, sym, ap, ◌∙◌, subst}
use Rattle.ffc_smt.specs.Trees.{Trees}
use Rattle.ffc_words.specs.Words.{AreItemsAt}
use Rattle.ffc_elab.specs.AskedLists.{ReadsList}
use Rattle.ffc_elab.proofs.ListEndLemmas.{no_list, group_here}
use Rattle.ffc_elab.proofs.asked_lists.read_list.Goals as goal

pub returns-in-LeftParen : goal.returns-in-LeftParen
returns-in-LeftParen c = λ nodes s items closing scope at order.
    let words = c.args.words.now in
    let found = group_here words 2 items closing [] at (sym c.kind.ensures ∙ c.in-LeftParen.is) in
    subst (λ (v : Trees). ReadsList nodes c.args.symbols.now words c.args.listed s v closing c.inner_list.result) (sym found.4)
    (c.inner_list.ensures nodes s found.0 found.2 closing found.1 found.3 scope (subst (λ (v : Trees). AreItemsAt words 2 v closing []) found.4 at) order)

pub returns-in_default : goal.returns-in_default
returns-in_default c = λ nodes s items closing scope at order.
    no_list c.args.listed s c.args.words.now closing items at order (λ e. c.in_default.not-LeftParen (c.kind.ensures ∙ e)) ∙ ap Err (sym c.fault.ensures)
