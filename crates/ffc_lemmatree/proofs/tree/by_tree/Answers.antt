use Rattle.std.proofs.Common.{◌≡◌, sym, ◌∙◌, subst}
use Rattle.std.proofs.lemmas.List.Elements.{recursion_from_All}
use Rattle.ffc_cert.specs.Ranges.{IsNarrow, IsLine}
use Rattle.ffc_refutation.specs.Forcing.{line_of}
use Rattle.ffc_refutation.specs.Given.{AreReadable, AreRight}
use Rattle.ffc_refutation.specs.Written.{AreNumbered}
use Rattle.ffc_lemmatree.specs.Written.{refutation_lines}
use Rattle.ffc_lemmatree.proofs.Refuting.{tree_right, refuted_readable}
use Rattle.ffc_lemmatree.proofs.Steps.{refutation_written}
use Rattle.ffc_lemmatree.proofs.tree.by_tree.Goals as goal
use Rattle.ffc_lemmatree.proofs.tree.by_tree.Goals.{After-drop-tree-2}

written : (c : After-drop-tree-2) → c.from_vec-2.result ≡ refutation_lines c.args.reasons.now c.args.order c.args.lits.items c.args.tree.items
written c =
    c.from_vec-2.ensures
    ∙ refutation_written c.args.reasons.now c.args.order c.args.lits.items c.args.tree.items c.in_ok-lines.lines.items c.push.new.self.items c.append.new.self.items c.push-2.new.self.items c.from_vec.result c.in_ok-empty_by.field-0
    c.in_ok-lines.ensures.lines c.from_vec.ensures c.in_ok-push.ensures.items c.in_ok-append.ensures.items c.in_ok-empty_by.ensures c.in_ok-push-2.ensures.items

pub returns-clause-readable : goal.returns-clause-readable
returns-clause-readable c check is =
    subst AreReadable (sym (written c))
    (refuted_readable check c.args.reasons.now c.args.order c.args.lits.items c.args.tree.items is c.requires.few c.requires.short
    (recursion_from_All (λ r. IsLine (line_of r)) c.args.reasons.now c.in_ok-lines.ensures.ranges)
    (recursion_from_All (λ l. IsNarrow l.1) c.args.lits.items (subst AreNumbered c.deref.ensures.value c.have_numbers.ensures)))

pub returns-clause-right : goal.returns-clause-right
returns-clause-right c check is = subst (AreRight check) (sym (written c)) (tree_right check c.args.reasons.now c.args.order c.args.lits.items c.args.tree.items is)
