use Rattle.std.proofs.Common.{◌≡◌, ◌<◌, ◌++◌, [], get_or, refl, sym, ◌∙◌, subst, arith, mod-eq_of_lt}
use Rattle.ffc_field.specs.Modular.{mul_mod, neg_mod}
use Rattle.ffc_ring.specs.Monomial.{Monomial, Divides, mono_mul, mono_lcm}
use Rattle.ffc_ring.specs.Polynomial.{Terms, AreTerms, SamePolynomial, term_product, difference}
use Rattle.ffc_mono.specs.declared.mono.TheConstants.{DEGREE_LIMIT}
use Rattle.ffc_line.specs.Lines.{polys_of}
use Rattle.ffc_basis.specs.Completion.{IsSPolynomial, PassesSPolynomial}
use Rattle.ffc_basis.proofs.Lists.{poly_at}
use Rattle.ffc_basis.proofs.OrderedTerms.{AreTerms-ordered}
use Rattle.ffc_basis.proofs.SPolynomialLemmas.{divides_lcm_first, divides_lcm_second, passes_lcm, passes_difference, is_s_polynomial, is_sum}
use Rattle.ffc_basis.proofs.spoly.s_polynomial.Goals as goal

pub returns-in-Err-clause-over : goal.returns-in-Err-clause-over
returns-in-Err-clause-over g c = λ some.
    let p = g.F.Field.ORDER in
    let cmp = g.O.MonoOrder.cmp in
    let ls = c.args.lines.now in
    let a : Terms = (get_or ls c.args.i c.index-lines-i.result).poly in
    let b : Terms = (get_or ls c.args.j c.index-lines-j.result).poly in
    subst (λ x. PassesSPolynomial p cmp x (get_or (polys_of ls) c.args.j [])) (sym (poly_at ls c.args.i c.index-lines-i.result c.requires.first))
    (subst (PassesSPolynomial p cmp a) (sym (poly_at ls c.args.j c.index-lines-j.result c.requires.second))
    (passes_lcm p g.met.F.Field.prime cmp a b (g.F.Field.value c.in-Some.m.0) (g.F.Field.value c.in-Some-lead.n.0) c.in-Some.m.1.powers.now c.in-Some-lead.n.1.powers.now c.in-Some.ensures.leading c.in-Some-lead.ensures.leading
    (AreTerms-ordered p cmp DEGREE_LIMIT a c.len.ensures.ordered) (AreTerms-ordered p cmp DEGREE_LIMIT b c.len-2.ensures.ordered) (c.in-Err.ensures.over some)))

pub multiple_of-requires-clause-divides : goal.multiple_of-requires-clause-divides
multiple_of-requires-clause-divides g c =
    subst (Divides c.in-Some.m.1.powers.now) (sym (c.as_ref.ensures ∙ c.in-Ok.ensures.value))
    (divides_lcm_first c.in-Some.m.1.powers.now c.in-Some-lead.n.1.powers.now c.in-Some.m.1.is_monomial c.in-Some-lead.n.1.is_monomial)

pub multiple_of-requires-2-clause-divides : goal.multiple_of-requires-2-clause-divides
multiple_of-requires-2-clause-divides g c =
    subst (Divides c.in-Some-lead.n.1.powers.now) (sym (c.as_ref-2.ensures ∙ c.in-Ok.ensures.value))
    (divides_lcm_second c.in-Some.m.1.powers.now c.in-Some-lead.n.1.powers.now c.in-Some.m.1.is_monomial c.in-Some-lead.n.1.is_monomial)

pub returns-in-Err-difference_of-clause-over : goal.returns-in-Err-difference_of-clause-over
returns-in-Err-difference_of-clause-over g c = λ some.
    let p = g.F.Field.ORDER in
    let value = g.F.Field.value in
    let cmp = g.O.MonoOrder.cmp in
    let ls = c.args.lines.now in
    let a : Terms = (get_or ls c.args.i c.index-lines-i.result).poly in
    let b : Terms = (get_or ls c.args.j c.index-lines-j.result).poly in
    let m : Monomial = c.in-Some.m.1.powers.now in
    let n : Monomial = c.in-Some-lead.n.1.powers.now in
    let k = value c.in_ok-first.first.coefficient in
    let l = value c.in_ok-second.second.coefficient in
    let one : 1 < p = omega (arith, g.met.F.Field.prime.least) in
    let kc : mul_mod p k (value c.in-Some.m.0) ≡ 1 = c.in_ok-first.ensures.coefficient ∙ c.of.ensures ∙ mod-eq_of_lt one in
    let ld : mul_mod p l (value c.in-Some-lead.n.0) ≡ 1 = c.in_ok-second.ensures.coefficient ∙ c.of-2.ensures ∙ mod-eq_of_lt one in
    subst (λ x. PassesSPolynomial p cmp x (get_or (polys_of ls) c.args.j [])) (sym (poly_at ls c.args.i c.index-lines-i.result c.requires.first))
    (subst (PassesSPolynomial p cmp a) (sym (poly_at ls c.args.j c.index-lines-j.result c.requires.second))
    (passes_difference p g.met.F.Field.prime cmp a b (value c.in-Some.m.0) (value c.in-Some-lead.n.0) m n c.in-Some.ensures.leading c.in-Some-lead.ensures.leading
    (AreTerms-ordered p cmp DEGREE_LIMIT a c.len.ensures.ordered) (AreTerms-ordered p cmp DEGREE_LIMIT b c.len-2.ensures.ordered)
    k l c.in_ok-first.first.monomial c.in_ok-second.second.monomial kc ld c.degree.ensures.monomial c.degree-2.ensures.monomial
    (c.in_ok-first.ensures.monomial ∙ c.as_ref.ensures ∙ c.in-Ok.ensures.value) (c.in_ok-second.ensures.monomial ∙ c.as_ref-2.ensures ∙ c.in-Ok.ensures.value)
    (c.in-Err-difference_of.ensures.over some)))

pub returns-clause-made : goal.returns-clause-made
returns-clause-made g c =
    let p = g.F.Field.ORDER in
    let value = g.F.Field.value in
    let cmp = g.O.MonoOrder.cmp in
    let ls = c.args.lines.now in
    let a : Terms = (get_or ls c.args.i c.index-lines-i.result).poly in
    let b : Terms = (get_or ls c.args.j c.index-lines-j.result).poly in
    let m : Monomial = c.in-Some.m.1.powers.now in
    let n : Monomial = c.in-Some-lead.n.1.powers.now in
    let k = value c.in_ok-first.first.coefficient in
    let l = value c.in_ok-second.second.coefficient in
    let u : Monomial = c.in_ok-first.first.monomial in
    let v : Monomial = c.in_ok-second.second.monomial in
    let s : Terms = c.in-Ok-difference_of.poly in
    let one : 1 < p = omega (arith, g.met.F.Field.prime.least) in
    let kc : mul_mod p k (value c.in-Some.m.0) ≡ 1 = c.in_ok-first.ensures.coefficient ∙ c.of.ensures ∙ mod-eq_of_lt one in
    let ld : mul_mod p l (value c.in-Some-lead.n.0) ≡ 1 = c.in_ok-second.ensures.coefficient ∙ c.of-2.ensures ∙ mod-eq_of_lt one in
    let x : AreTerms a = AreTerms-ordered p cmp DEGREE_LIMIT a c.len.ensures.ordered in
    let y : AreTerms b = AreTerms-ordered p cmp DEGREE_LIMIT b c.len-2.ensures.ordered in
    let first : get_or (polys_of ls) c.args.i [] ≡ a = poly_at ls c.args.i c.index-lines-i.result c.requires.first in
    let second : get_or (polys_of ls) c.args.j [] ≡ b = poly_at ls c.args.j c.index-lines-j.result c.requires.second in
    let first_up : mono_mul m u ≡ mono_lcm m n = c.in_ok-first.ensures.monomial ∙ c.as_ref.ensures ∙ c.in-Ok.ensures.value in
    let second_up : mono_mul n v ≡ mono_lcm m n = c.in_ok-second.ensures.monomial ∙ c.as_ref-2.ensures ∙ c.in-Ok.ensures.value in
    let is : SamePolynomial p s (difference p (term_product k u a) (term_product l v b)) = c.in-Ok-difference_of.ensures.difference in
    let whole : IsSPolynomial p cmp a b s =
    is_s_polynomial p g.met.F.Field.prime cmp a b (value c.in-Some.m.0) (value c.in-Some-lead.n.0) m n c.in-Some.ensures.leading c.in-Some-lead.ensures.leading x y k l u v kc ld
    c.degree.ensures.monomial c.degree-2.ensures.monomial first_up second_up s is in
    let sum : SamePolynomial p s (term_product k u a ++ term_product (neg_mod p l) v b) =
    is_sum p g.met.F.Field.prime cmp a b (value c.in-Some.m.0) (value c.in-Some-lead.n.0) m n c.in-Some.ensures.leading c.in-Some-lead.ensures.leading x y k l u v kc ld
    c.degree.ensures.monomial c.degree-2.ensures.monomial first_up second_up (g.met.F.Field.below c.in_ok-second.second.coefficient) s is in
    record {
      polynomial = subst (λ t. IsSPolynomial p cmp t (get_or (polys_of ls) c.args.j []) s) (sym first) (subst (λ t. IsSPolynomial p cmp a t s) (sym second) whole);
      first = c.in_ok-first.ensures.line;
      second = refl;
      sum = subst (λ t. SamePolynomial p s (term_product k u t ++ term_product (value c.neg.result) v (get_or (polys_of ls) c.args.j []))) (sym first)
          (subst (λ t. SamePolynomial p s (term_product k u a ++ term_product (value c.neg.result) v t)) (sym second)
          (subst (λ e. SamePolynomial p s (term_product k u a ++ term_product e v b)) (sym c.neg.ensures) sum));
    }
