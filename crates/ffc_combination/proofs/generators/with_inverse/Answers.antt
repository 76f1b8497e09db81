use Rattle.std.proofs.Common.{◌≡◌, ◌<◌, ◌++◌, [], ◌∷◌, ℕ, ap, ap₂, ◌∙◌, subst, arith, Err}
use Rattle.std.proofs.Math.Nat.{mod-eq_of_lt}
use Rattle.ffc_ring.specs.Monomial.{Monomial}
use Rattle.ffc_ring.specs.Polynomial.{Terms, SamePolynomial, PassesDegree, PassesTerms, term_product, difference}
use Rattle.ffc_trees.specs.NodePolynomials.{constant}
use Rattle.ffc_combination.proofs.SideLemmas.{ordered_normal, inverse_turned, passes_alike}
use Rattle.ffc_combination.proofs.generators.with_inverse.Goals as goal

-- the product with 1 times the variable
same_product : (p n w : ℕ) (powers inverse : Monomial) (poly : Terms) → 1 < p → n ≡ 1 → powers ≡ inverse → inverse ≡ (w, 1) ∷ [] → term_product n powers poly ≡ term_product 1 ((w, 1) ∷ []) poly
same_product p n w powers inverse poly least one is at = ap₂ (λ (k : ℕ) (m : Monomial). term_product k m poly) one (is ∙ at)

pub returns-in-Ok-clause-same : goal.returns-in-Ok-clause-same
returns-in-Ok-clause-same g c =
    let p = g.F.Field.ORDER in
    let poly : Terms = c.args.poly.now in
    let w = c.args.number in
    let one : Terms = c.in_ok-minus_one.minus_one in
    let found : Terms = c.in-Ok.found in
    let least : 1 < p = omega (arith, g.met.F.Field.prime.least) in
    let value_is : g.F.Field.value c.of.result ≡ 1 = c.of.ensures ∙ mod-eq_of_lt least in
    let product = same_product p (g.F.Field.value c.of.result) w c.as_ref.result.powers.now c.in_ok-inverse.inverse poly least value_is c.as_ref.ensures c.in_ok-inverse.ensures in
    let sum : SamePolynomial p found (one ++ term_product 1 ((w, 1) ∷ []) poly) = subst (λ (ts : Terms). SamePolynomial p found (one ++ ts)) product c.in-Ok.ensures.sum in
    λ m. sum m ∙ inverse_turned p one (term_product 1 ((w, 1) ∷ []) poly) c.in_ok-minus_one.ensures m

pub returns-in-Ok-clause-normal : goal.returns-in-Ok-clause-normal
returns-in-Ok-clause-normal g c = ordered_normal g.F.Field.ORDER 1024 c.in-Ok.found c.len-terms.ensures.ordered

pub unreachable-requires : goal.unreachable-requires
unreachable-requires g c =
    let p = g.F.Field.ORDER in
    let poly : Terms = c.args.poly.now in
    let w = c.args.number in
    let least : 1 < p = omega (arith, g.met.F.Field.prime.least) in
    let value_is : g.F.Field.value c.of.result ≡ 1 = c.of.ensures ∙ mod-eq_of_lt least in
    c.requires.low
    (subst (λ (k : ℕ). PassesDegree p 1024 ((k, (w, 1) ∷ []) ∷ []) poly) value_is
    (subst (λ (m : Monomial). PassesDegree p 1024 ((g.F.Field.value c.of.result, m) ∷ []) poly) (c.as_ref.ensures ∙ c.in_ok-inverse.ensures)
    (c.add_multiple.ensures.degree_over.0 (c.in-Err-DegreeOver.is ∙ ap Err c.in-Err-DegreeOver.field-0-is))))

pub unreachable-requires-in-Err-TermsOver : goal.unreachable-requires-in-Err-TermsOver
unreachable-requires-in-Err-TermsOver g c =
    let p = g.F.Field.ORDER in
    let poly : Terms = c.args.poly.now in
    let w = c.args.number in
    let one : Terms = c.in_ok-minus_one.minus_one in
    let least : 1 < p = omega (arith, g.met.F.Field.prime.least) in
    let value_is : g.F.Field.value c.of.result ≡ 1 = c.of.ensures ∙ mod-eq_of_lt least in
    let product = same_product p (g.F.Field.value c.of.result) w c.as_ref.result.powers.now c.in_ok-inverse.inverse poly least value_is c.as_ref.ensures c.in_ok-inverse.ensures in
    c.requires.short
    (passes_alike p 131072 (one ++ term_product 1 ((w, 1) ∷ []) poly) (difference p (term_product 1 ((w, 1) ∷ []) poly) (constant 1)) (inverse_turned p one (term_product 1 ((w, 1) ∷ []) poly) c.in_ok-minus_one.ensures)
    (subst (λ (ts : Terms). PassesTerms p 131072 (one ++ ts)) product (c.add_multiple.ensures.terms_over (c.in-Err-TermsOver.is ∙ ap Err c.in-Err-TermsOver.field-0-is))))
