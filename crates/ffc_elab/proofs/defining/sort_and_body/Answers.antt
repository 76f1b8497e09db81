use Rattle.std.proofs.Common.{◌≡◌, [], ◌∙◌, ap, map, reverse}
use Rattle.ffc_elab.specs.Defining.{pair_of}
use Rattle.std.proofs.lemmas.List.{reverse-reverse}
use Rattle.ffc_elab.proofs.DefineReading.{no_sort_item, body_stops, body_read_so}
use Rattle.ffc_elab.proofs.defining.sort_and_body.Goals as goal

pub returns-in-Err : goal.returns-in-Err
returns-in-Err c = λ s ps items closing names scope at order.
    no_sort_item s ps c.args.symbols.now.sorts closing c.args.at items c.in-Err.fault scope.sorts (c.in-Err.ensures items closing [] at)

pub returns-in-Err-last_term : goal.returns-in-Err-last_term
returns-in-Err-last_term c = λ s ps items closing names scope at order.
    let locals : c.in-Ok-reversed.locals ≡ map pair_of ps = c.in-Ok-reversed.ensures ∙ ap reverse names ∙ reverse-reverse (map pair_of ps) in
    body_stops s ps c.args.symbols.now scope c.args.words.now closing c.args.at c.in-Ok.sort c.in-Ok.next c.in-Ok-reversed.locals locals items c.in-Err-last_term.stop at order (c.in-Ok.ensures items closing [] at)
    (λ us there after. c.in-Err-last_term.ensures s.nodes s ps us closing [] locals scope there after)

pub returns-in-Ok-last_term : goal.returns-in-Ok-last_term
returns-in-Ok-last_term c = λ s ps items closing names scope at order.
    let locals : c.in-Ok-reversed.locals ≡ map pair_of ps = c.in-Ok-reversed.ensures ∙ ap reverse names ∙ reverse-reverse (map pair_of ps) in
    body_read_so s ps c.args.symbols.now scope c.args.words.now closing c.args.at c.in-Ok.sort c.in-Ok.next c.in-Ok-reversed.locals locals items c.in-Ok-last_term.body at order (c.in-Ok.ensures items closing [] at)
    (λ us there after. c.in-Ok-last_term.ensures s.nodes s ps us closing [] locals scope there after)
