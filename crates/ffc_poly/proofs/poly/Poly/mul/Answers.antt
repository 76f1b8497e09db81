use Rattle.std.proofs.Common.{◌≡◌, ℕ, [], ◌%◌, refl, ap, ap₂, ◌∙◌, arith}
use Rattle.std.proofs.lemmas.Result.{IfOk-weaker, on_ok_weaker}
use Rattle.ffc_field.specs.Modular.{mul_mod}
use Rattle.ffc_ring.specs.Polynomial.{SamePolynomial, product, written, poly_value}
use Rattle.ffc_mono.specs.declared.mono.TheConstants.{DEGREE_LIMIT}
use Rattle.ffc_poly.specs.declared.poly.TheConstants.{TERM_LIMIT}
use Rattle.ffc_poly.proofs.Clauses.{nothing_product, product_nothing, value_of_product}
use Rattle.ffc_poly.proofs.Coefficients.{PassesTerms-short}
use Rattle.ffc_poly.proofs.poly.Poly.mul.Goals as goal

pub returns-then-is_zero-clause-fits : goal.returns-then-is_zero-clause-fits
returns-then-is_zero-clause-fits g c =
    let p = g.F.Field.ORDER in
    let a = c.args.self.now in
    let b = c.args.other.now in
    PassesTerms-short p g.O.MonoOrder.cmp g.met.O.MonoOrder.laws DEGREE_LIMIT TERM_LIMIT [] (product a b) (nothing_product p a b (c.if-is_zero.ensures.0 refl)) (omega arith)

pub returns-then-is_zero-2-clause-product : goal.returns-then-is_zero-2-clause-product
returns-then-is_zero-2-clause-product g c =
    let p = g.F.Field.ORDER in
    let none = product_nothing p c.args.self.now c.args.other.now (c.if-is_zero-2.ensures.0 refl) in
    λ m. ap (λ ts. written ts m % p) c.zero-then-is_zero-2.ensures ∙ none m

pub returns-then-is_zero-2-clause-fits : goal.returns-then-is_zero-2-clause-fits
returns-then-is_zero-2-clause-fits g c =
    let p = g.F.Field.ORDER in
    let a = c.args.self.now in
    let b = c.args.other.now in
    PassesTerms-short p g.O.MonoOrder.cmp g.met.O.MonoOrder.laws DEGREE_LIMIT TERM_LIMIT [] (product a b) (product_nothing p a b (c.if-is_zero-2.ensures.0 refl)) (omega arith)

pub returns-clause-value : goal.returns-clause-value
returns-clause-value g c =
    let p = g.F.Field.ORDER in
    let a = c.args.self.now in
    let b = c.args.other.now in
    let terms = c.in_ok-product.field-0 in
    let same : SamePolynomial p terms (product a b) =
    λ m. c.in_ok-product.ensures.same m ∙ ap₂ (λ x y. written (product x y) m % p) c.listed-a.ensures.value c.listed-b.ensures.value in
    IfOk-weaker c.within.result (λ v. v ≡ terms) (λ v. (point : ℕ → ℕ) → poly_value p point v ≡ mul_mod p (poly_value p point a) (poly_value p point b))
    (λ v e. value_of_product p v a b (λ m. ap (λ ts. written ts m % p) e ∙ same m)) c.within.ensures.value

pub returns-clause-fits : goal.returns-clause-fits
returns-clause-fits g c =
    let p = g.F.Field.ORDER in
    let all = product c.args.self.now c.args.other.now in
    let same : SamePolynomial p c.in_ok-product.field-0 all =
    λ m. c.in_ok-product.ensures.same m ∙ ap₂ (λ x y. written (product x y) m % p) c.listed-a.ensures.value c.listed-b.ensures.value in
    on_ok_weaker c.within.result (λ h. h all same) c.within.ensures.fits
