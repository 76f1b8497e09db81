use Rattle.std.proofs.Common.{◌++◌, ◌%◌, inr, get_or, All, IfNone, sym, ap, ◌∙◌, subst, arith, heap_items}
use Rattle.std.proofs.lemmas.Result.{on_ok_weaker}
use Rattle.std.proofs.lemmas.Option.{slice_get-get_or}
use Rattle.ffc_ring.specs.Polynomial.{SamePolynomial, scaled}
use Rattle.ffc_poly.specs.Ordered.{sum_of}
use Rattle.ffc_term.specs.declared.node.Node.{Node}
use Rattle.ffc_term.specs.declared.node.Node.TheVariants.{True}
use Rattle.ffc_term.specs.Nodes.{IsNodeAt}
use Rattle.ffc_trees.specs.NodePolynomials.{node_polys, poly_at}
use Rattle.ffc_encode.specs.Opening.{IsLeafAt, IsReady, IsOpenable}
use Rattle.ffc_encode.specs.Waiting.{owed}
use Rattle.ffc_encode.proofs.PartLemmas.{at_some}
use Rattle.ffc_encode.proofs.OpeningLemmas.{is_sum, not_ready, parts_openable, opened_less, some_size}
use Rattle.ffc_encode.proofs.WaitingLemmas.{part_pushed, known_scaled, opened_kept, waiting_have}
use Rattle.ffc_encode.proofs.sums.settle.Goals as goal

pub returns-in-Some-clause-same : goal.returns-in-Some-clause-same
returns-in-Some-clause-same g c =
    let p = g.F.Field.ORDER in
    let nodes = c.args.table.now in
    let id = c.args.item.node in
    let f = poly_at nodes id in
    let w = g.F.Field.value c.of-weight.result in
    let part = c.in-Some.part.now in
    let r = c.in_ok-multiple.field-0 in
    let known : SamePolynomial p part f = at_some (λ k. SamePolynomial p k f) _ part (sym c.in-Some.ensures.value) (c.requires.known id) in
    part_pushed p w c.args.item.weight c.args.parts.now.items c.push.new.self.items r f (owed (node_polys nodes) (heap_items c.args.waiting.now)) c.in_ok-push.ensures.items
    (c.of-weight.ensures ∙ ap (λ k. k % p) c.from.ensures) (known_scaled p w r part f known c.in_ok-multiple.ensures)

pub returns-in-Some-clause-less : goal.returns-in-Some-clause-less
returns-in-Some-clause-less g c = omega (arith, some_size c.args.table.now g.F.Field.ORDER c.args.item.node c.requires.node.field)

pub returns-in-Some-2-clause-same : goal.returns-in-Some-2-clause-same
returns-in-Some-2-clause-same g c =
    let p = g.F.Field.ORDER in
    let nodes = c.args.table.now in
    let f = poly_at nodes c.args.item.node in
    let w = g.F.Field.value c.of-weight.result in
    let part = c.in-Some-2.part in
    part_pushed p w c.args.item.weight c.args.parts.now.items c.push-in-Some-2.new.self.items part f (owed (node_polys nodes) (heap_items c.args.waiting.now)) c.in_ok-push-2.ensures.items
    (c.of-weight.ensures ∙ ap (λ k. k % p) c.from.ensures) (at_some (λ r. SamePolynomial p r (scaled w f)) c.in_ok-part.field-0 part c.in-Some-2.is c.in_ok-part.ensures.same)

pub returns-in-Some-2-clause-less : goal.returns-in-Some-2-clause-less
returns-in-Some-2-clause-less g c = omega (arith, some_size c.args.table.now g.F.Field.ORDER c.args.item.node c.requires.node.field)

pub open-requires-clause-sum : goal.open-requires-clause-sum
open-requires-clause-sum g c =
    let nodes = c.args.table.now in
    let known = c.args.known.now in
    let id = c.args.item.node in
    is_sum nodes g.F.Field.ORDER (IsReady nodes known) id (λ q l. inr l) (not_ready nodes known id (sym c.in_default.ensures.value) (subst (λ o. IfNone o (IsLeafAt nodes id → ⊥)) c.in_default-2.is c.in_ok-part.ensures.none)) c.requires.node

pub returns-clause-waiting : goal.returns-clause-waiting
returns-clause-waiting g c =
    let p = g.F.Field.ORDER in
    let nodes = c.args.table.now in
    let known = c.args.known.now in
    let id = c.args.item.node in
    let has = IsReady nodes known in
    let n : Node = get_or nodes id True in
    let at : IsNodeAt nodes id n = slice_get-get_or nodes id True c.requires.node.field.0 in
    let apart = not_ready nodes known id (sym c.in_default.ensures.value) (subst (λ o. IfNone o (IsLeafAt nodes id → ⊥)) c.in_default-2.is c.in_ok-part.ensures.none) in
    on_ok_weaker c.open.result
    (λ o. waiting_have (IsOpenable nodes p has) o.added (heap_items c.args.waiting.now) (heap_items c.open.new.waiting)
    (subst (All (IsOpenable nodes p has)) (sym (o.parts n at)) (parts_openable nodes p has id n c.requires.valid at apart c.requires.node)) c.requires.waiting o.all)
    c.open.ensures.waiting

pub returns-clause-less : goal.returns-clause-less
returns-clause-less g c =
    let nodes = c.args.table.now in
    let id = c.args.item.node in
    let n : Node = get_or nodes id True in
    let at : IsNodeAt nodes id n = slice_get-get_or nodes id True c.requires.node.field.0 in
    on_ok_weaker c.open.result
    (λ o. opened_less nodes g.F.Field.ORDER id n o.added (heap_items c.args.waiting.now) (heap_items c.open.new.waiting) c.requires.valid c.requires.node.field at (o.parts n at) o.all)
    c.open.ensures.waiting

pub returns-clause-same : goal.returns-clause-same
returns-clause-same g c =
    let p = g.F.Field.ORDER in
    let nodes = c.args.table.now in
    let polys = node_polys nodes in
    let f = poly_at nodes c.args.item.node in
    let w = g.F.Field.value c.of-weight.result in
    let k = c.args.item.weight in
    let parts = sum_of c.args.parts.now.items in
    let old = owed polys (heap_items c.args.waiting.now) in
    let new = owed polys (heap_items c.open.new.waiting) in
    on_ok_weaker c.open.result
    (λ h. opened_kept p w k parts new f old (c.of-weight.ensures ∙ ap (λ j. j % p) c.from.ensures) h) c.open.ensures.same
