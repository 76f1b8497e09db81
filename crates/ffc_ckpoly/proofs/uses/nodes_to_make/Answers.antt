use Rattle.std.proofs.Common.{◌≡◌, ◌<◌, length, get_or, is_some, ap, arith}
use Rattle.std.proofs.lemmas.Option.{slice_get-get_or}
use Rattle.ffc_term.specs.declared.node.Node.{Node}
use Rattle.ffc_term.specs.declared.node.Node.TheVariants.{True}
use Rattle.ffc_term.specs.Nodes.{IsNodeAt}
use Rattle.ffc_ckpoly.proofs.UseLemmas.{looked_at, smaller, all_listed, none_in_empty}
use Rattle.ffc_ckpoly.proofs.uses.nodes_to_make.Goals as goal

pub loop-next-smaller : goal.loop-next-smaller
loop-next-smaller g c =
    let nodes = c.args.table.now in
    let next = c.in-Some.next in
    let n : Node = get_or nodes next True in
    let at : IsNodeAt nodes next n = slice_get-get_or nodes next True (c.loop-next.invariant.waits next (ap is_some c.in-Some.ensures.value)).field.0 in
    smaller nodes g.F.Field.ORDER c.args.known.now c.args.id c.loop-next.to_make c.list_made.new.to_make c.loop-next.waiting c.pop_last.new.self c.note_operands.new.waiting next c.in-Some.uses n
    c.list_made.ensures.valid at c.in-Some.ensures.value c.in-Some.ensures.updates c.in_ok-list_made.ensures.listed (c.in_ok-note_operands.ensures n at) c.loop-next.invariant c.in-Some.ensures.greatest c.in-Some.ensures.removal

pub loop-next-preserved : goal.loop-next-preserved
loop-next-preserved g c =
    let nodes = c.args.table.now in
    let next = c.in-Some.next in
    let n : Node = get_or nodes next True in
    let at : IsNodeAt nodes next n = slice_get-get_or nodes next True (c.loop-next.invariant.waits next (ap is_some c.in-Some.ensures.value)).field.0 in
    looked_at nodes g.F.Field.ORDER c.args.known.now c.args.id c.loop-next.to_make c.list_made.new.to_make c.loop-next.waiting c.pop_last.new.self c.note_operands.new.waiting next c.in-Some.uses n
    c.list_made.ensures.valid at c.in-Some.ensures.value c.in-Some.ensures.updates c.in_ok-list_made.ensures.listed (c.in_ok-note_operands.ensures n at) c.loop-next.invariant

pub returns-clause-made : goal.returns-clause-made
returns-clause-made g c =
    let none : length c.loop-next.waiting.entries ≡ 0 = (let full : 0 < length c.loop-next.waiting.entries → ⊥ = λ h. let never = c.in_default.ensures.variant.1 h in cc in omega (arith, full)) in
    all_listed c.args.table.now g.F.Field.ORDER c.args.known.now c.args.id c.loop-next.to_make c.loop-next.waiting c.loop-next.invariant (λ q. none_in_empty c.loop-next.waiting q none)
