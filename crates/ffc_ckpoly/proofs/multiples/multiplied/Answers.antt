use Rattle.std.proofs.Common.{◌≡◌, ◌<◌, length, All, Some, sym, ap, ◌∙◌, subst}
use Rattle.ffc_term.specs.declared.node.Node.TheVariants.{Mul}
use Rattle.ffc_term.specs.Nodes.{IsNodeAt}
use Rattle.ffc_ckpoly.specs.Multiples.{multiple_of}
use Rattle.ffc_ckpoly.proofs.MultipleLemmas.{parts_inside, multiple_opens, multiplied_inside}
use Rattle.ffc_ckpoly.proofs.multiples.multiplied.Goals as goal

pub multiple_of-requires : goal.multiple_of-requires
multiple_of-requires c =
    let nodes = c.args.table.now in
    let id = c.args.id in
    subst (All (λ k. k < length nodes)) (sym c.as_slice.ensures)
    (parts_inside nodes id (Mul c.in-Mul.ids) c.node.ensures.valid (subst (IsNodeAt nodes id) c.in-Mul.is c.node.ensures.at))

pub returns-in-Some : goal.returns-in-Some
returns-in-Some c =
    let nodes = c.args.table.now in
    let id = c.args.id in
    let ids = c.in-Mul.ids in
    let at : IsNodeAt nodes id (Mul ids) = subst (IsNodeAt nodes id) c.in-Mul.is c.node.ensures.at in
    let found : multiple_of nodes ids ≡ Some (c.in-Some.field-0-0, c.in-Some.part) = ap (multiple_of nodes) (sym c.as_slice.ensures) ∙ sym c.in-Some.ensures in
    record {
      alone = multiple_opens nodes id ids (c.in-Some.field-0-0, c.in-Some.part) at found;
      inside = multiplied_inside (λ k. k < length nodes) nodes ids (c.in-Some.field-0-0, c.in-Some.part) (parts_inside nodes id (Mul ids) c.node.ensures.valid at) found;
    }
