use Rattle.std.proofs.Common.{◌≡◌, ℕ, ◌%◌, sym, ap, ap₂, ◌∙◌, subst}
use Rattle.std.proofs.lemmas.Result.{IfOk-weaker}
use Rattle.ffc_field.specs.Modular.{mul_mod}
use Rattle.ffc_ring.specs.Polynomial.{SamePolynomial, written, poly_value, product}
use Rattle.ffc_ring.proofs.PolynomialLemmas.{one_value, poly_value-product}
use Rattle.ffc_ckpoly.specs.Flat.{cut, HaveMonomials, ProductFits, rows}
use Rattle.ffc_ckpoly.specs.Sorted.{residues, IsSortedBy, word_order}
use Rattle.ffc_ckpoly.proofs.SortedLemmas.{sorted_monomials, fits_product, rows_monomials, rows_same}
use Rattle.ffc_ckpoly.proofs.poly.CkPoly.mul.Goals as goal

pub products_of-requires-clause-fits : goal.products_of-requires-clause-fits
products_of-requires-clause-fits g c =
    let value = g.F.Field.value in
    let p = g.F.Field.ORDER in
    let left = ap (residues value) c.as_slice.ensures.value ∙ c.in_ok-left.ensures.terms in
    let right = c.other.view_is in
    let fits = fits_product c.args.self.now c.args.other.now (sorted_monomials p word_order _ c.in_ok-left.ensures.sorted) (sorted_monomials p word_order _ (subst (IsSortedBy p word_order) right c.other.invariant.1)) c.requires in
    subst (λ k. ProductFits k (cut value 0 c.other.inside.buffer.marks.items c.other.inside.buffer.powers.items)) (sym left) (subst (ProductFits c.args.self.now) (sym right) fits)

pub sum_in-requires-clause-monomials : goal.sum_in-requires-clause-monomials
sum_in-requires-clause-monomials g c =
    let value = g.F.Field.value in
    let p = g.F.Field.ORDER in
    let left = ap (residues value) c.as_slice.ensures.value ∙ c.in_ok-left.ensures.terms in
    let right = c.other.view_is in
    let fits = fits_product c.args.self.now c.args.other.now (sorted_monomials p word_order _ c.in_ok-left.ensures.sorted) (sorted_monomials p word_order _ (subst (IsSortedBy p word_order) right c.other.invariant.1)) c.requires in
    subst HaveMonomials (sym (c.in_ok-products.ensures.terms ∙ ap₂ (rows p) left right)) (rows_monomials p c.args.self.now c.args.other.now fits)

pub returns-clause-product : goal.returns-clause-product
returns-clause-product g c =
    let value = g.F.Field.value in
    let p = g.F.Field.ORDER in
    let a = c.args.self.now in
    let b = c.args.other.now in
    let left = ap (residues value) c.as_slice.ensures.value ∙ c.in_ok-left.ensures.terms in
    let right = c.other.view_is in
    let all = c.in_ok-products.ensures.terms ∙ ap₂ (rows p) left right in
    IfOk-weaker c.sum_in.result _ (λ r. SamePolynomial p r (product a b))
    (λ r h m. h m ∙ ap (λ k. written k m % p) all ∙ rows_same p a b m) c.sum_in.ensures.sum

pub returns-clause-value : goal.returns-clause-value
returns-clause-value g c =
    let value = g.F.Field.value in
    let p = g.F.Field.ORDER in
    let a = c.args.self.now in
    let b = c.args.other.now in
    let left = ap (residues value) c.as_slice.ensures.value ∙ c.in_ok-left.ensures.terms in
    let right = c.other.view_is in
    let all = c.in_ok-products.ensures.terms ∙ ap₂ (rows p) left right in
    IfOk-weaker c.sum_in.result _ (λ r. (point : ℕ → ℕ) → poly_value p point r ≡ mul_mod p (poly_value p point a) (poly_value p point b))
    (λ r h point. one_value p point r (product a b) (λ m. h m ∙ ap (λ k. written k m % p) all ∙ rows_same p a b m) ∙ poly_value-product p point a b) c.sum_in.ensures.sum
