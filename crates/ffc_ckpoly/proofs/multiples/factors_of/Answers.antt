use Rattle.std.proofs.Common.{◌<◌, length, All, sym, subst}
use Rattle.ffc_term.specs.declared.node.Node.TheVariants.{Mul}
use Rattle.ffc_term.specs.Nodes.{IsNodeAt}
use Rattle.ffc_ckpoly.proofs.MultipleLemmas.{parts_inside}
use Rattle.ffc_ckpoly.proofs.multiples.factors_of.Goals as goal

pub multiple_of-requires : goal.multiple_of-requires
multiple_of-requires c =
    let nodes = c.args.table.now in
    let id = c.args.id in
    subst (All (λ k. k < length nodes)) (sym c.as_slice-ids.ensures)
    (parts_inside nodes id (Mul c.in-Mul.ids) c.node.ensures.valid (subst (IsNodeAt nodes id) c.in-Mul.is c.node.ensures.at))
