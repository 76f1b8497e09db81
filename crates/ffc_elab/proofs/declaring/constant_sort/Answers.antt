use Rattle.std.proofs.Common.{drop, sym, ap, ◌∙◌, subst, Err}
use Rattle.ffc_smt.specs.Trees.{items_of}
use Rattle.ffc_smt.specs.Faults.{last, item}
use Rattle.ffc_smt.specs.TermReading.{sort_read}
use Rattle.ffc_elab.specs.Reading.{AreInOrder, later_items}
use Rattle.ffc_elab.proofs.OutcomeLemmas.{outcome_map, drop_plus}
use Rattle.ffc_elab.proofs.ItemLemmas.{sorts_there, none_missing, none_filled, none_passed, order_drop}
use Rattle.ffc_elab.proofs.declaring.constant_sort.Goals as goal

pub returns-in-RightParen : goal.returns-in-RightParen
returns-in-RightParen c = λ items closing at order.
    let words = c.args.words.now in
    let sorts = c.args.sorts.now in
    let passed = none_passed (λ p. p.1.0) (λ closing ts. item closing (sort_read sorts) last ts) words 3 closing (sorts_there sorts) items at order (sym c.kind.ensures ∙ c.in-LeftParen.is) (sym c.kind-in-LeftParen.ensures ∙ c.in-RightParen.is) in
    let later : AreInOrder (drop 5 words) = subst AreInOrder (sym (drop_plus 2 3 words)) (order_drop 2 (drop 3 words) order) in
    c.last_sort.ensures (later_items items) closing passed.0 later ∙ outcome_map (λ p. p.0) (item closing (sort_read sorts) last (items_of (later_items items))) ∙ sym passed.1

pub returns-in_default-kind : goal.returns-in_default-kind
returns-in_default-kind c = λ items closing at order.
    let sorts = c.args.sorts.now in
    ap Err c.fault.ensures
    ∙ sym (none_filled (λ p. p.1.0) (λ closing ts. item closing (sort_read sorts) last ts) c.args.words.now 3 closing (sorts_there sorts) items at order (sym c.kind.ensures ∙ c.in-LeftParen.is) (λ e. c.in_default-kind.not-RightParen (c.kind-in-LeftParen.ensures ∙ e)))

pub returns-in_default : goal.returns-in_default
returns-in_default c = λ items closing at order.
    let sorts = c.args.sorts.now in
    ap Err c.fault-in_default.ensures
    ∙ sym (none_missing (λ p. p.1.0) (λ closing ts. item closing (sort_read sorts) last ts) c.args.words.now 3 closing (sorts_there sorts) items at order (λ e. c.in_default.not-LeftParen (c.kind.ensures ∙ e)))
