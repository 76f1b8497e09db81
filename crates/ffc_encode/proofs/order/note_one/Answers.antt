use Rattle.std.proofs.Common.{◌≡◌, true, IfSome, sym, ◌∙◌, subst}
use Rattle.ffc_encode.proofs.OrderLemmas.{noted_known, one_noted}
use Rattle.ffc_encode.proofs.order.note_one.Goals as goal

pub returns-then-contains_key : goal.returns-then-contains_key
returns-then-contains_key g c = noted_known c.args.known.now c.args.waiting.now c.args.factor c.args.id (sym c.contains_key.ensures ∙ c.if-contains_key.true)

pub returns : goal.returns
returns g c =
    let noted = c.is_factor-noted.result in
    one_noted c.args.known.now c.args.waiting.now c.insert.new.self c.args.factor c.args.id noted c.in_ok-insert.ensures.updates c.is_factor-noted.ensures.factor
    (subst (λ o. IfSome o (λ b. b ≡ true → noted ≡ true)) (c.copied.ensures ∙ c.get.ensures.value) c.is_factor-noted.ensures.before)
