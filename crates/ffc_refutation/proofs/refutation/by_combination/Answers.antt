use Rattle.std.proofs.Common.{◌≡◌, length, sym, ap, ◌∙◌, subst}
use Rattle.std.proofs.lemmas.List.Elements.{recursion_from_All}
use Rattle.ffc_cert.specs.Ranges.{IsNarrow, IsLine}
use Rattle.ffc_refutation.specs.Forcing.{line_of}
use Rattle.ffc_refutation.specs.Given.{AreReadable, AreRight}
use Rattle.ffc_refutation.specs.Written.{combination_lines, AreNumbered, IsNumbered}
use Rattle.ffc_refutation.proofs.Refuting.{combination_right, refuted_readable}
use Rattle.ffc_refutation.proofs.Steps.{combination_written}
use Rattle.ffc_refutation.proofs.refutation.by_combination.Goals as goal
use Rattle.ffc_refutation.proofs.refutation.by_combination.Goals.{After-from_vec-2}

written : (c : After-from_vec-2) → c.from_vec-2.result ≡ combination_lines c.args.reasons.now c.args.order c.args.lits.items c.args.summands.items
written c =
    c.from_vec-2.ensures
    ∙ combination_written c.args.reasons.now c.args.order c.args.lits.items c.args.summands.items c.in_ok-lines.lines.items c.push.new.self.items c.in_ok-lines-2.lines.items c.push-2.new.self.items c.from_vec.result c.in_ok-empty_by.field-0 _
    c.in_ok-lines.ensures.lines c.from_vec.ensures c.in_ok-push.ensures.items (c.len-first.ensures ∙ sym c.deref.ensures.len ∙ ap length c.deref.ensures.value) c.in_ok-lines-2.ensures.lines c.in_ok-empty_by.ensures c.in_ok-push-2.ensures.items

pub returns-clause-readable : goal.returns-clause-readable
returns-clause-readable c check is =
    subst AreReadable (sym (written c))
    (refuted_readable check c.args.reasons.now c.args.order c.args.lits.items c.args.summands.items is c.requires.few c.requires.short c.requires.terms
    (recursion_from_All (λ r. IsLine (line_of r)) c.args.reasons.now c.in_ok-lines.ensures.ranges)
    (recursion_from_All (λ l. IsNarrow l.1) c.args.lits.items (subst AreNumbered c.deref.ensures.value c.have_numbers.ensures))
    (recursion_from_All IsNumbered c.args.summands.items c.in_ok-lines-2.ensures.numbered))

pub returns-clause-right : goal.returns-clause-right
returns-clause-right c check is = subst (AreRight check) (sym (written c)) (combination_right check c.args.reasons.now c.args.order c.args.lits.items c.args.summands.items is)
