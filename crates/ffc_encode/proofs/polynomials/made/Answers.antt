use Rattle.std.proofs.Common.{All, sym, subst}
use Rattle.std.proofs.lemmas.Result.{IfOk-weaker}
use Rattle.ffc_ring.specs.Polynomial.{SamePolynomial}
use Rattle.ffc_term.specs.declared.node.Node.TheVariants.{Mul}
use Rattle.ffc_term.specs.Nodes.{IsNodeAt}
use Rattle.ffc_trees.specs.NodePolynomials.{node_polys, poly_at, product_of}
use Rattle.ffc_encode.specs.Opening.{IsReady}
use Rattle.ffc_encode.specs.Parts.{AreFactors}
use Rattle.ffc_trees.proofs.PartLemmas.{parts_are}
use Rattle.ffc_encode.proofs.PartLemmas.{factors_are}
use Rattle.ffc_encode.proofs.ExpandLemmas.{product_expands}
use Rattle.ffc_encode.proofs.OpeningLemmas.{no_product, openable}
use Rattle.ffc_encode.proofs.polynomials.made.Goals as goal

pub product-requires-clause-factors : goal.product-requires-clause-factors
product-requires-clause-factors g c =
    let p = g.F.Field.ORDER in
    let nodes = c.args.table.now in
    let id = c.args.id in
    let at : IsNodeAt nodes id (Mul c.in-Mul.ids) = subst (IsNodeAt nodes id) c.in-Mul.is c.node.ensures.at in
    subst (AreFactors nodes p) (sym c.as_slice.ensures) (factors_are nodes p id c.in-Mul.ids c.node.ensures.valid at c.requires.within)

pub product-requires-clause-there : goal.product-requires-clause-there
product-requires-clause-there g c =
    let nodes = c.args.table.now in
    let id = c.args.id in
    let at : IsNodeAt nodes id (Mul c.in-Mul.ids) = subst (IsNodeAt nodes id) c.in-Mul.is c.node.ensures.at in
    subst (All (IsReady nodes c.args.known.now)) (sym c.as_slice.ensures) (c.requires.parts.factors c.in-Mul.ids at)

pub returns-in-Mul : goal.returns-in-Mul
returns-in-Mul g c =
    let p = g.F.Field.ORDER in
    let nodes = c.args.table.now in
    let id = c.args.id in
    let ids = c.in-Mul.ids in
    let at : IsNodeAt nodes id (Mul ids) = subst (IsNodeAt nodes id) c.in-Mul.is c.node.ensures.at in
    let parts = parts_are nodes p id c.node.ensures.valid c.requires.within.field (Mul ids) at in
    IfOk-weaker c.product.result (λ r. SamePolynomial p r (product_of (node_polys nodes) c.as_slice.result.now)) (λ r. SamePolynomial p r (poly_at nodes id))
    (λ r same. product_expands nodes p id ids r c.requires.within.field at (λ k d h. (parts k d h).1) (subst (λ l. SamePolynomial p r (product_of (node_polys nodes) l)) c.as_slice.ensures same)) c.product.ensures

pub sum_at-requires-clause-opens : goal.sum_at-requires-clause-opens
sum_at-requires-clause-opens g c =
    let nodes = c.args.table.now in
    let n = c.node.result.now in
    openable nodes g.F.Field.ORDER (IsReady nodes c.args.known.now) c.args.id n c.requires.within.field c.node.ensures.at (no_product n c.in_default.not-Mul) c.requires.parts
