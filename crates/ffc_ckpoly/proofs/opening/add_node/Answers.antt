use Rattle.std.proofs.Common.{◌++◌, [], get_or, sum_by, All, is_some, refl, sym, ap, ◌∙◌, subst, arith}
use Rattle.std.proofs.lemmas.List.Elements.{All-append}
use Rattle.std.proofs.lemmas.List.Sums.{sum_by-append}
use Rattle.std.proofs.lemmas.Option.{slice_get-get_or}
use Rattle.std.proofs.lemmas.Result.{IfOk-weaker, on_ok_weaker}
use Rattle.ffc_ring.specs.Polynomial.{SamePolynomial, scaled}
use Rattle.ffc_ring.proofs.PolynomialLemmas.{same_sums, same_term_products}
use Rattle.ffc_term.specs.declared.node.Node.{Node}
use Rattle.ffc_term.specs.declared.node.Node.TheVariants.{True}
use Rattle.ffc_term.specs.Nodes.{IsNodeAt}
use Rattle.ffc_trees.specs.NodePolynomials.{node_polys, poly_at}
use Rattle.ffc_trees.specs.Same.{IsSameLine}
use Rattle.ffc_ckpoly.specs.Parts.{owed}
use Rattle.ffc_ckpoly.specs.Multiples.{operands}
use Rattle.ffc_ckpoly.specs.Opening.{size_at, waiting_ids, IsThere, IsOpenable}
use Rattle.ffc_ckpoly.proofs.PartLemmas.{found_line, on_ok_always}
use Rattle.ffc_ckpoly.proofs.OpeningLemmas.{term_added, opened, operands_openable, size_at-operands, some_size}
use Rattle.ffc_ckpoly.proofs.opening.add_node.Goals as goal

pub open-requires-clause-plain : goal.open-requires-clause-plain
open-requires-clause-plain g c =
    let has = IsThere c.args.known.now c.args.made.now in
    let none : has c.args.item.1 → ⊥ = λ h. let never = ap is_some c.in_default.ensures ∙ h in cc in
    λ n at. (opened c.args.table.now has c.args.item.1 n at none c.requires.node.opens).0

pub returns-in_default-clause-waiting : goal.returns-in_default-clause-waiting
returns-in_default-clause-waiting g c =
    let p = g.F.Field.ORDER in
    let nodes = c.args.table.now in
    let id = c.args.item.1 in
    let has = IsThere c.args.known.now c.args.made.now in
    let n : Node = get_or nodes id True in
    let at : IsNodeAt nodes id n = slice_get-get_or nodes id True c.requires.node.field.0 in
    let none : has id → ⊥ = λ h. let never = ap is_some c.in_default.ensures ∙ h in cc in
    on_ok_weaker c.open.result
    (λ e. subst (All (IsOpenable nodes p has)) (sym (e n at))
    (All-append (IsOpenable nodes p has) (waiting_ids c.args.waiting.now.items) (operands nodes n) c.requires.waiting (operands_openable nodes p has id n c.requires.valid at none c.requires.node)))
    c.open.ensures.waiting

pub returns-in_default-clause-less : goal.returns-in_default-clause-less
returns-in_default-clause-less g c =
    let p = g.F.Field.ORDER in
    let nodes = c.args.table.now in
    let id = c.args.item.1 in
    let old = waiting_ids c.args.waiting.now.items in
    let n : Node = get_or nodes id True in
    let at : IsNodeAt nodes id n = slice_get-get_or nodes id True c.requires.node.field.0 in
    on_ok_weaker c.open.result
    (λ e. let sum = ap (sum_by (size_at nodes)) (e n at) in
    omega (arith, sum, sum_by-append (size_at nodes) old (operands nodes n), size_at-operands nodes p id n c.requires.valid c.requires.node.field at))
    c.open.ensures.waiting

pub returns-clause-less : goal.returns-clause-less
returns-clause-less g c =
    on_ok_always c.with_product.result _ (omega (arith, some_size c.args.table.now g.F.Field.ORDER c.args.item.1 c.requires.node.field))

pub returns-clause-same : goal.returns-clause-same
returns-clause-same g c =
    let value = g.F.Field.value in
    let p = g.F.Field.ORDER in
    let nodes = c.args.table.now in
    let id = c.args.item.1 in
    let w = value c.args.item.0 in
    let f = c.in-Some.part.now in
    let sum = c.args.sum in
    let old = owed value (node_polys nodes) c.args.waiting.now.items in
    let line : IsSameLine p f (poly_at nodes id) = found_line p nodes c.args.known.now c.args.made.now id f c.requires.known c.requires.made c.in-Some.ensures in
    IfOk-weaker c.with_product.result _ (λ r. SamePolynomial p (r ++ old) (sum ++ (old ++ scaled w (poly_at nodes id))))
    (λ r h m. let added : SamePolynomial p r (sum ++ scaled w f) = subst (λ k. SamePolynomial p r (sum ++ scaled k f)) c.residue.ensures.value h in
    same_sums p r (sum ++ scaled w f) old old added (λ k. refl) m
    ∙ term_added p sum old (scaled w f) (scaled w (poly_at nodes id)) (same_term_products p w [] f (poly_at nodes id) line.same) m)
    c.with_product.ensures
