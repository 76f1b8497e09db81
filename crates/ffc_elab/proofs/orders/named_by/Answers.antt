use Rattle.std.proofs.Common.{sym, ap, ◌∙◌}
use Rattle.ffc_parts.specs.Numbers.{order_only}
use Rattle.ffc_smt.specs.Numbers.{literal_order}
use Rattle.ffc_words.specs.Words.{word_at}
use Rattle.ffc_elab.proofs.OrderLemmas.{literal_named}
use Rattle.ffc_elab.proofs.orders.named_by.Goals as goal

pub returns-in-Some : goal.returns-in-Some
returns-in-Some c = λ all.
    literal_named (word_at c.args.words.now c.args.at) c.in-Some.order c.field_of-in-Some.result (sym c.kind.ensures ∙ c.in-FieldLiteral.is)
    (ap (λ b. order_only (literal_order b)) (sym c.bytes-in-FieldLiteral.ensures) ∙ sym c.literal_order.ensures ∙ c.in-Some.is) c.field_of-in-Some.ensures all
