use Rattle.std.proofs.Common.{get_or, ◌∙◌, sym}
use Rattle.std.proofs.lemmas.Option.{slice_get-get_or}
use Rattle.ffc_term.specs.declared.node.Node.{Node}
use Rattle.ffc_term.specs.declared.node.Node.TheVariants.{True}
use Rattle.ffc_term.specs.Nodes.{IsNodeAt}
use Rattle.ffc_ckpoly.proofs.MultipleLemmas.{single_opens}
use Rattle.ffc_ckpoly.proofs.multiples.opens_alone.Goals as goal

pub returns-in-Some : goal.returns-in-Some
returns-in-Some c = λ h.
    let nodes = c.args.table.now in
    let part = c.in-Some.part in
    let n : Node = get_or nodes part True in
    let at : IsNodeAt nodes part n = slice_get-get_or nodes part True c.in-Some.ensures.inside in
    c.in-Some.ensures.alone (single_opens nodes part n at (sym (c.is_single.ensures n at) ∙ h))

pub returns-in-None : goal.returns-in-None
returns-in-None c = λ h.
    let nodes = c.args.table.now in
    let id = c.args.id in
    let n : Node = get_or nodes id True in
    let at : IsNodeAt nodes id n = slice_get-get_or nodes id True c.requires in
    single_opens nodes id n at (sym (c.is_single-in-None.ensures n at) ∙ h)
