use Rattle.std.proofs.Common.{◌≡◌, ℕ, ◌<◌, ◌++◌, ◌∷◌, [], ◌+◌, ◌%◌, length, map, take, sym, ap, ap₂, ◌∙◌, subst, arith, take_all}
use Rattle.std.proofs.lemmas.List.{take_more}
use Rattle.ffc_ring.specs.Monomial.{Monomial}
use Rattle.ffc_ring.specs.Polynomial.{Terms, written}
use Rattle.ffc_uni.specs.Univariate.{power_of, terms_in}
use Rattle.ffc_uni.proofs.RingLemmas.{same_in_ring}
use Rattle.ffc_roots.specs.Sparse.{IsPowerOf}
use Rattle.ffc_roots.proofs.SparseLemmas.{term_added, not_in_one}
use Rattle.ffc_roots.proofs.sparse.to_univariate.Goals as goal

pub returns-in_default-clause-none : goal.returns-in_default-clause-none
returns-in_default-clause-none g c =
    let v = c.args.variable in
    let f = c.args.f.now in
    let low : c.loop-i.i < length f = omega (arith, c.loop-i-test.true, c.len-i-end.ensures.value) in
    not_in_one v f c.loop-i.i low (λ alone. c.in_default.ensures.none (subst (IsPowerOf v) (sym c.term-c.ensures.monomial) alone))

pub loop-i-preserved : goal.loop-i-preserved
loop-i-preserved g c =
    let value = g.F.Field.value in
    let p = g.F.Field.ORDER in
    let v = c.args.variable in
    let f = c.args.f.now in
    let i = c.loop-i.i in
    let low : i < length f = omega (arith, c.loop-i-test.true, c.len-i-end.ensures.value) in
    let term : take i f ++ (value c.term-c.result.0, power_of v c.in-Some.exponent) ∷ [] ≡ take (i + 1) f =
    ap₂ (λ (x : ℕ) (m : Monomial). take i f ++ (x, m) ∷ []) c.term-c.ensures.coefficient (sym c.in-Some.ensures.some ∙ c.term-c.ensures.monomial)
    ∙ sym (take_more f i (0, []) low) in
    λ n. term_added p v (map value c.loop-i.row.items) (map value c.add_at.new.row.items) c.in-Some.exponent (value c.term-c.result.0) (take i f)
    c.loop-i.invariant c.in_ok-add_at.ensures n
    ∙ ap (λ (l : Terms). written l n % p) term

pub returns-clause-some : goal.returns-clause-some
returns-clause-some g c =
    let value = g.F.Field.value in
    let p = g.F.Field.ORDER in
    let v = c.args.variable in
    let f = c.args.f.now in
    let all : take c.loop-i.i f ≡ f = take_all c.loop-i.i f (omega (arith, c.loop-i-test.false, c.len-i-end.ensures.value)) in
    λ n. same_in_ring p v c.in_ok-from_coefs.field-0 (map value c.as_slice.result.now) c.in_ok-from_coefs.ensures.same n
    ∙ ap (λ l. written (terms_in v (map value l)) n % p) c.as_slice.ensures.value
    ∙ c.loop-i.invariant n
    ∙ ap (λ (l : Terms). written l n % p) all
