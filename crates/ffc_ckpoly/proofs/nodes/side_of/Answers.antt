use Rattle.std.proofs.Common.{sym}
use Rattle.std.specs.Ordering.{nat_cmp}
use Rattle.std.specs.BTreeMap.{get}
use Rattle.ffc_trees.specs.NodePolynomials.{poly_at}
use Rattle.ffc_trees.specs.Same.{IsSameLine}
use Rattle.ffc_ckpoly.proofs.PartLemmas.{at_some}
use Rattle.ffc_ckpoly.proofs.SideLemmas.{none_known, all_left, least_can, one_made}
use Rattle.ffc_ckpoly.proofs.nodes.side_of.Goals as goal

pub loop-next-init : goal.loop-next-init
loop-next-init g c =
    let p = g.F.Field.ORDER in
    let nodes = c.args.table.now in
    let made = c.new-made.result in
    all_left nodes p c.args.known.now made c.args.id c.in_ok-to_make.to_make (none_known p nodes made c.new-made.ensures.empty) c.in_ok-to_make.ensures.made c.in_ok-to_make.ensures.itself

pub polynomial_of-requires-clause-parts : goal.polynomial_of-requires-clause-parts
polynomial_of-requires-clause-parts g c =
    least_can c.args.table.now g.F.Field.ORDER c.args.known.now c.args.id c.loop-next.made c.loop-next.to_make c.in-Some.next c.loop-next.invariant
    c.len-nodes.ensures.valid c.in-Some.ensures.member c.in-Some.ensures.least

pub loop-next-preserved : goal.loop-next-preserved
loop-next-preserved g c =
    one_made c.args.table.now g.F.Field.ORDER c.args.known.now c.args.id c.loop-next.made c.loop-next.to_make c.in-Some.next c.loop-next.invariant
    c.keep.new.known c.pop_first.new.self c.in_ok-part.part c.in-Some.ensures.updates c.in_ok-keep.ensures.ok c.in_ok-part.ensures

pub returns : goal.returns
returns g c =
    at_some (λ f. IsSameLine g.F.Field.ORDER f (poly_at c.args.table.now c.args.id)) (get nat_cmp c.loop-next.made c.args.id) c.in-Some-remove.side
    (sym c.in-Some-remove.ensures.value) (c.loop-next.invariant.lines c.args.id)
