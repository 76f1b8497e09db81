use Rattle.std.proofs.Common.{◌≤◌, ◌-◌, ◌^◌, length, sym, ◌∙◌, arith}
use Rattle.ffc_elab.proofs.ParameterLists.{item_none, item_some}
use Rattle.ffc_elab.proofs.parameters.parameters_at.Goals as goal

pub returns-in_default : goal.returns-in_default
returns-in_default c = λ s items closing rest sorts at order.
    item_none s c.args.words.now c.args.at closing rest items c.fault.result at (λ e. c.in_default.not-LeftParen (c.kind.ensures ∙ e)) c.fault.ensures

pub returns-in-LeftParen : goal.returns-in-LeftParen
returns-in-LeftParen c = λ s items closing rest sorts at order.
    let words = c.args.words.now in
    let few : length words ≤ 2 ^ 64 - 1 = omega (arith, c.len-count.ensures, c.len-count.type_inv) in
    item_some s words c.args.at closing rest items c.parameters_from.result c.saturating_add.result at order (sym c.kind.ensures ∙ c.in-LeftParen.is) few c.saturating_add.ensures
    (λ is d more inner inner_order. c.parameters_from.ensures s is d more sorts inner inner_order)
