use Rattle.std.proofs.Common.{◌≡◌, ◌<◌, length, All, Some, sym, ap, ◌∙◌, subst, arith}
use Rattle.ffc_term.specs.declared.node.Node.TheVariants.{Add, Mul, Neg, Bitsum}
use Rattle.ffc_term.specs.Nodes.{IsNodeAt}
use Rattle.ffc_ckpoly.specs.Multiples.{multiple_of}
use Rattle.ffc_ckpoly.proofs.MultipleLemmas.{parts_inside, multiplied_inside}
use Rattle.ffc_ckpoly.proofs.uses.note_operands.Goals as goal

pub note_all-requires : goal.note_all-requires
note_all-requires g c =
    let nodes = c.args.table.now in
    let id = c.args.id in
    subst (All (λ k. k < length nodes)) (sym c.as_slice.ensures)
    (parts_inside nodes id (Add c.in-Add.ids) c.node.ensures.valid (subst (IsNodeAt nodes id) c.in-Add.is c.node.ensures.at))

pub note_all-requires-in-Bitsum : goal.note_all-requires-in-Bitsum
note_all-requires-in-Bitsum g c =
    let nodes = c.args.table.now in
    let id = c.args.id in
    subst (All (λ k. k < length nodes)) (sym c.as_slice-in-Bitsum.ensures)
    (parts_inside nodes id (Bitsum c.in-Bitsum.ids) c.node.ensures.valid (subst (IsNodeAt nodes id) c.in-Bitsum.is c.node.ensures.at))

pub multiple_of-requires : goal.multiple_of-requires
multiple_of-requires g c =
    let nodes = c.args.table.now in
    let id = c.args.id in
    subst (All (λ k. k < length nodes)) (sym c.as_slice-in-Mul.ensures)
    (parts_inside nodes id (Mul c.in-Mul.ids) c.node.ensures.valid (subst (IsNodeAt nodes id) c.in-Mul.is c.node.ensures.at))

pub note_one-requires : goal.note_one-requires
note_one-requires g c =
    let nodes = c.args.table.now in
    let id = c.args.id in
    let ids = c.in-Mul.ids in
    let at : IsNodeAt nodes id (Mul ids) = subst (IsNodeAt nodes id) c.in-Mul.is c.node.ensures.at in
    let found : multiple_of nodes ids ≡ Some (c.in-Some.field-0-0, c.in-Some.part) = ap (multiple_of nodes) (sym c.as_slice-in-Mul.ensures) ∙ sym c.in-Some.ensures in
    multiplied_inside (λ k. k < length nodes) nodes ids (c.in-Some.field-0-0, c.in-Some.part) (parts_inside nodes id (Mul ids) c.node.ensures.valid at) found

pub note_all-requires-in-None : goal.note_all-requires-in-None
note_all-requires-in-None g c =
    let nodes = c.args.table.now in
    let id = c.args.id in
    subst (All (λ k. k < length nodes)) (sym c.as_slice-in-None.ensures)
    (parts_inside nodes id (Mul c.in-Mul.ids) c.node.ensures.valid (subst (IsNodeAt nodes id) c.in-Mul.is c.node.ensures.at))

pub note_one-requires-in-Neg : goal.note_one-requires-in-Neg
note_one-requires-in-Neg g c =
    let nodes = c.args.table.now in
    let id = c.args.id in
    parts_inside nodes id (Neg c.in-Neg.a) c.node.ensures.valid (subst (IsNodeAt nodes id) c.in-Neg.is c.node.ensures.at) 0 0 (omega arith)
