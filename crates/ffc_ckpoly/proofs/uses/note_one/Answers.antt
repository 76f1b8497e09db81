use Rattle.std.proofs.Common.{◌≡◌, true, IfSome, sym, ◌∙◌, subst}
use Rattle.ffc_ckpoly.proofs.UseLemmas.{noted_known, noted_light, one_noted}
use Rattle.ffc_ckpoly.proofs.uses.note_one.Goals as goal

pub returns-then-opens_alone : goal.returns-then-opens_alone
returns-then-opens_alone g c =
    noted_light c.args.table.now c.args.known.now c.args.waiting.now c.args.factor c.args.id
    (record { no_factor = c.if-not-factor.true; opens = c.opens_alone.ensures c.if-opens_alone.true })

pub returns-then-contains_key : goal.returns-then-contains_key
returns-then-contains_key g c = noted_known c.args.table.now c.args.known.now c.args.waiting.now c.args.factor c.args.id (sym c.contains_key.ensures ∙ c.if-contains_key.true)

pub returns : goal.returns
returns g c =
    let noted = c.one_more-noted.result in
    one_noted c.args.table.now c.args.known.now c.args.waiting.now c.insert.new.self c.args.factor c.args.id noted c.in_ok-insert.ensures.updates c.one_more-noted.ensures.factor
    (subst (λ o. IfSome o (λ u. u.factor ≡ true → noted.factor ≡ true)) (c.copied.ensures ∙ c.get.ensures.value) c.one_more-noted.ensures.before)
