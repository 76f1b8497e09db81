use Rattle.std.proofs.Common.{◌≡◌, ◌∷◌, [], ◌++◌, ◌<◌, OnOk, map, sym, ap, ◌∙◌, refl, subst, arith, heap_items}
use Rattle.std.specs.List.Sorted.{IsPermutation}
use Rattle.std.proofs.lemmas.Option.{same_Some}
use Rattle.ffc_ring.specs.Polynomial.{SamePolynomial, scaled}
use Rattle.ffc_term.specs.declared.node.Node.{Node}
use Rattle.ffc_term.specs.declared.node.Node.TheVariants.{Add, Neg, Bitsum}
use Rattle.ffc_term.specs.Nodes.{IsNodeAt}
use Rattle.ffc_trees.specs.NodePolynomials.{node_polys, poly_at}
use Rattle.ffc_trees.specs.Parts.{parts_of}
use Rattle.ffc_trees.proofs.PartLemmas.{parts_are}
use Rattle.ffc_encode.specs.declared.sums.Owed.{Owed}
use Rattle.ffc_encode.specs.Waiting.{owed_of, owed, geometric, AreOpened}
use Rattle.ffc_encode.proofs.OpeningLemmas.{nothing_else}
use Rattle.ffc_encode.proofs.PartLemmas.{on_ok}
use Rattle.ffc_encode.proofs.WaitingLemmas.{geometric_nodes, opened, opened_parts, sum_opened, bits_opened, negation_opened}
use Rattle.ffc_encode.proofs.sums.open.Goals as goal

pub returns-in-Add-clause-waiting : goal.returns-in-Add-clause-waiting
returns-in-Add-clause-waiting g c =
    let value = g.F.Field.value in
    let p = g.F.Field.ORDER in
    let nodes = c.args.table.now in
    let id = c.args.id in
    let ids = c.in-Add.ids in
    let w = value c.args.weight in
    let r = value c.of.result in
    let old = heap_items c.args.waiting.now in
    let new = heap_items c.owe_all.new.waiting in
    let at : IsNodeAt nodes id (Add ids) = subst (IsNodeAt nodes id) c.in-Add.is c.node.ensures.at in
    on_ok c.owe_all.result (IsPermutation (geometric p w r c.as_slice.result.now ++ old) new) (AreOpened nodes id old new)
    (λ h. opened_parts nodes id (Add ids) (geometric p w r c.as_slice.result.now) old new at (geometric_nodes p w r c.as_slice.result.now ∙ c.as_slice.ensures) h) c.owe_all.ensures

pub returns-in-Add-clause-same : goal.returns-in-Add-clause-same
returns-in-Add-clause-same g c =
    let value = g.F.Field.value in
    let p = g.F.Field.ORDER in
    let nodes = c.args.table.now in
    let id = c.args.id in
    let ids = c.in-Add.ids in
    let w = value c.args.weight in
    let r = value c.of.result in
    let old = heap_items c.args.waiting.now in
    let new = heap_items c.owe_all.new.waiting in
    let at : IsNodeAt nodes id (Add ids) = subst (IsNodeAt nodes id) c.in-Add.is c.node.ensures.at in
    let parts = parts_are nodes p id c.node.ensures.valid c.requires.field (Add ids) at in
    on_ok c.owe_all.result (IsPermutation (geometric p w r c.as_slice.result.now ++ old) new) (SamePolynomial p (owed (node_polys nodes) new) (scaled w (poly_at nodes id) ++ owed (node_polys nodes) old))
    (λ h. opened p (node_polys nodes) (geometric p w r ids) old new (scaled w (poly_at nodes id)) (subst (λ l. IsPermutation (geometric p w r l ++ old) new) c.as_slice.ensures h) (sum_opened nodes p id c.requires.field w r ids at (λ k d inside. (parts k d inside).1) c.of.ensures)) c.owe_all.ensures

pub returns-in-Bitsum-clause-waiting : goal.returns-in-Bitsum-clause-waiting
returns-in-Bitsum-clause-waiting g c =
    let value = g.F.Field.value in
    let p = g.F.Field.ORDER in
    let nodes = c.args.table.now in
    let id = c.args.id in
    let ids = c.in-Bitsum.ids in
    let w = value c.args.weight in
    let r = value c.of-in-Bitsum.result in
    let old = heap_items c.args.waiting.now in
    let new = heap_items c.owe_all-in-Bitsum.new.waiting in
    let at : IsNodeAt nodes id (Bitsum ids) = subst (IsNodeAt nodes id) c.in-Bitsum.is c.node.ensures.at in
    on_ok c.owe_all-in-Bitsum.result (IsPermutation (geometric p w r c.as_slice-in-Bitsum.result.now ++ old) new) (AreOpened nodes id old new)
    (λ h. opened_parts nodes id (Bitsum ids) (geometric p w r c.as_slice-in-Bitsum.result.now) old new at (geometric_nodes p w r c.as_slice-in-Bitsum.result.now ∙ c.as_slice-in-Bitsum.ensures) h) c.owe_all-in-Bitsum.ensures

pub returns-in-Bitsum-clause-same : goal.returns-in-Bitsum-clause-same
returns-in-Bitsum-clause-same g c =
    let value = g.F.Field.value in
    let p = g.F.Field.ORDER in
    let nodes = c.args.table.now in
    let id = c.args.id in
    let ids = c.in-Bitsum.ids in
    let w = value c.args.weight in
    let r = value c.of-in-Bitsum.result in
    let old = heap_items c.args.waiting.now in
    let new = heap_items c.owe_all-in-Bitsum.new.waiting in
    let at : IsNodeAt nodes id (Bitsum ids) = subst (IsNodeAt nodes id) c.in-Bitsum.is c.node.ensures.at in
    let parts = parts_are nodes p id c.node.ensures.valid c.requires.field (Bitsum ids) at in
    on_ok c.owe_all-in-Bitsum.result (IsPermutation (geometric p w r c.as_slice-in-Bitsum.result.now ++ old) new) (SamePolynomial p (owed (node_polys nodes) new) (scaled w (poly_at nodes id) ++ owed (node_polys nodes) old))
    (λ h. opened p (node_polys nodes) (geometric p w r ids) old new (scaled w (poly_at nodes id)) (subst (λ l. IsPermutation (geometric p w r l ++ old) new) c.as_slice-in-Bitsum.ensures h) (bits_opened nodes p id c.requires.field w r ids at (λ k d inside. (parts k d inside).1) c.of-in-Bitsum.ensures)) c.owe_all-in-Bitsum.ensures

pub returns-in-Neg-clause-waiting : goal.returns-in-Neg-clause-waiting
returns-in-Neg-clause-waiting g c =
    let nodes = c.args.table.now in
    let id = c.args.id in
    let a = c.in-Neg.a in
    let v = g.F.Field.value c.neg.result in
    let old = heap_items c.args.waiting.now in
    let new = heap_items c.owe.new.waiting in
    let at : IsNodeAt nodes id (Neg a) = subst (IsNodeAt nodes id) c.in-Neg.is c.node.ensures.at in
    on_ok c.owe.result (IsPermutation (owed_of a v ∷ old) new) (AreOpened nodes id old new)
    (λ h. opened_parts nodes id (Neg a) (owed_of a v ∷ []) old new at refl h) c.owe.ensures

pub returns-in-Neg-clause-same : goal.returns-in-Neg-clause-same
returns-in-Neg-clause-same g c =
    let value = g.F.Field.value in
    let p = g.F.Field.ORDER in
    let nodes = c.args.table.now in
    let id = c.args.id in
    let a = c.in-Neg.a in
    let w = value c.args.weight in
    let v = value c.neg.result in
    let old = heap_items c.args.waiting.now in
    let new = heap_items c.owe.new.waiting in
    let at : IsNodeAt nodes id (Neg a) = subst (IsNodeAt nodes id) c.in-Neg.is c.node.ensures.at in
    let parts = parts_are nodes p id c.node.ensures.valid c.requires.field (Neg a) at in
    let small : w < p = g.met.F.Field.below c.args.weight in
    on_ok c.owe.result (IsPermutation (owed_of a v ∷ old) new) (SamePolynomial p (owed (node_polys nodes) new) (scaled w (poly_at nodes id) ++ owed (node_polys nodes) old))
    (λ h. opened p (node_polys nodes) (owed_of a v ∷ []) old new (scaled w (poly_at nodes id)) h
    (negation_opened nodes p id c.requires.field w v a (omega arith) small at (parts 0 0 (omega arith)).1 c.neg.ensures)) c.owe.ensures

pub unreachable-requires : goal.unreachable-requires
unreachable-requires g c =
    nothing_else c.args.table.now g.F.Field.ORDER c.args.id c.node.result.now c.requires.field c.node.ensures.at c.requires.sum
    c.in_default.not-Add c.in_default.not-Bitsum c.in_default.not-Neg
