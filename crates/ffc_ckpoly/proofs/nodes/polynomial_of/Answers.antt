use Rattle.std.proofs.Common.{◌<◌, get_or, All, ◌∙◌, subst, arith}
use Rattle.std.proofs.lemmas.Option.{slice_get-get_or}
use Rattle.ffc_ring.specs.Polynomial.{SamePolynomial}
use Rattle.ffc_term.specs.declared.node.Node.{Node}
use Rattle.ffc_term.specs.declared.node.Node.TheVariants.{True, Mul}
use Rattle.ffc_term.specs.Nodes.{IsNodeAt}
use Rattle.ffc_trees.specs.Normal.{IsNormal}
use Rattle.ffc_trees.specs.NodePolynomials.{node_polys, poly_at, product_of}
use Rattle.ffc_trees.specs.Same.{IsSameLine}
use Rattle.ffc_trees.proofs.PartLemmas.{parts_are}
use Rattle.ffc_ckpoly.specs.Opening.{IsThere}
use Rattle.ffc_ckpoly.proofs.PartLemmas.{if_both, node_line, factors_low, as_product}
use Rattle.ffc_ckpoly.proofs.MultipleLemmas.{factors_are}
use Rattle.ffc_ckpoly.proofs.OpeningLemmas.{node_expands, openable}
use Rattle.ffc_ckpoly.proofs.nodes.polynomial_of.Goals as goal

pub product-requires : goal.product-requires
product-requires g c =
    let p = g.F.Field.ORDER in
    let nodes = c.args.table.now in
    let id = c.args.id in
    let ids = c.in-Some.ids.now in
    let n : Node = Mul ids in
    let is = c.in-Some.ensures.factors in
    let parts = parts_are nodes p id c.in-Some.ensures.valid c.requires.within.field n is.0 in
    record {
      valid = c.in-Some.ensures.valid;
      known = c.requires.known;
      made = c.requires.made;
      fields = λ k d h. (parts k d h).0;
      parts = subst (All (IsThere c.args.known.now c.args.made.now)) (factors_are nodes ids is.1) (c.requires.parts.factors n is.0 is.1);
      low = factors_low nodes p id ids c.in-Some.ensures.valid is.0 c.requires.within;
    }

pub opened_sum-requires : goal.opened_sum-requires
opened_sum-requires g c =
    let nodes = c.args.table.now in
    let id = c.args.id in
    let n : Node = get_or nodes id True in
    let at : IsNodeAt nodes id n = slice_get-get_or nodes id True c.requires.within.field.0 in
    let has = IsThere c.args.known.now c.args.made.now in
    record {
      valid = c.in-None.ensures.valid;
      known = c.requires.known;
      made = c.requires.made;
      node = openable nodes g.F.Field.ORDER has id n c.requires.within.field at (c.in-None.ensures.factors n at) c.requires.parts;
    }

pub returns-in-Some : goal.returns-in-Some
returns-in-Some g c =
    let p = g.F.Field.ORDER in
    let nodes = c.args.table.now in
    let id = c.args.id in
    let some : 0 < p = omega (arith, g.met.F.Field.prime.least) in
    let ids = c.in-Some.ids.now in
    let n : Node = Mul ids in
    let at : IsNodeAt nodes id n = c.in-Some.ensures.factors.0 in
    let parts = parts_are nodes p id c.in-Some.ensures.valid c.requires.within.field n at in
    if_both (λ r. SamePolynomial p r (product_of (node_polys nodes) ids)) (IsNormal p) (λ r. IsSameLine p r (poly_at nodes id)) c.product.result
    (λ r same n_r. node_line nodes p id n r some c.requires.within.field at n_r (as_product nodes id p ids r (λ k d h. (parts k d h).1) same))
    c.product.ensures.same c.product.ensures.normal

pub returns-in-None : goal.returns-in-None
returns-in-None g c =
    let p = g.F.Field.ORDER in
    let nodes = c.args.table.now in
    let id = c.args.id in
    let some : 0 < p = omega (arith, g.met.F.Field.prime.least) in
    let n : Node = get_or nodes id True in
    let at : IsNodeAt nodes id n = slice_get-get_or nodes id True c.requires.within.field.0 in
    if_both (λ r. SamePolynomial p r (poly_at nodes id)) (IsNormal p) (λ r. IsSameLine p r (poly_at nodes id)) c.opened_sum.result
    (λ r same n_r. node_line nodes p id n r some c.requires.within.field at n_r (λ m. same m ∙ node_expands nodes p id n c.requires.within.field at m))
    c.opened_sum.ensures.same c.opened_sum.ensures.normal
