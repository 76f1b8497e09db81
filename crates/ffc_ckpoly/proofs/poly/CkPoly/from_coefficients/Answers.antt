use Rattle.std.proofs.Common.{◌≡◌, ◌+◌, ◌-◌, ◌≤◌, ◌%◌, ◌++◌, ◌∷◌, [], length, map, drop, sym, ap, ◌∙◌, subst, arith, add-one, append-nil, Result, Ok, Err, IfOk}
use Rattle.std.proofs.lemmas.Result.{IfOk-weaker}
use Rattle.std.proofs.lemmas.List.{length-map}
use Rattle.ffc_ring.specs.Polynomial.{SamePolynomial, written}
use Rattle.ffc_trees.specs.Normal.{IsNormal, degree_of}
use Rattle.ffc_uni.specs.Univariate.{power_of, terms_from, terms_in}
use Rattle.ffc_ckpoly.specs.Flat.{cut, HaveMonomials}
use Rattle.ffc_ckpoly.proofs.Lists.{pushed, left_at}
use Rattle.ffc_ckpoly.proofs.SortedLemmas.{append_monomials, nothing_past}
use Rattle.ffc_ckpoly.proofs.UnivariateLemmas.{power_is, degree-power, within_from}
use Rattle.ffc_ckpoly.proofs.DegreeLemmas.{degree_within}
use Rattle.ffc_ckpoly.proofs.poly.CkPoly.from_coefficients.Goals as goal

-- what follows from two clauses of an answer
low_where : {T E : Type 0} (P Q R : T → Type 0) (r : Result T E) → ((x : T) → P x → Q x → R x) → IfOk r P → IfOk r Q → IfOk r R
low_where P Q R (Ok x) f p q = f x p q
low_where P Q R (Err e) f p q = tt

pub loop-exponent-preserved : goal.loop-exponent-preserved
loop-exponent-preserved g c =
    let value = g.F.Field.value in
    let inv = c.loop-exponent.invariant in
    let i = c.loop-exponent.exponent in
    let x = c.args.x in
    let coefs = c.args.coefs.now in
    let k = c.index-coefs-exponent.result in
    let old = cut value 0 c.loop-exponent.buffer.marks.items c.loop-exponent.buffer.powers.items in
    let all = c.in_ok-push_power.ensures.terms in
    let left = left_at coefs i k c.loop-exponent-test.true c.index-coefs-exponent.is in
    record {
      parts = c.in_ok-push_power.ensures.parts;
      monomials = subst HaveMonomials (sym all)
          (append_monomials old ((value k, power_of x i) ∷ []) inv.monomials (power_is x i, omega (arith, degree-power x i, c.in_ok-push_power.ensures.fits), tt));
      so_far = pushed _ _ _ _ _ all
          (ap (λ n. old ++ ((value k, power_of x i) ∷ terms_from x n (map value (drop (i + 1) coefs)))) (add-one i)
          ∙ ap (λ a. old ++ terms_from x i (map value a)) (sym left) ∙ inv.so_far);
    }

pub returns-clause-sum : goal.returns-clause-sum
returns-clause-sum g c =
    let value = g.F.Field.value in
    let p = g.F.Field.ORDER in
    let i = c.loop-exponent.exponent in
    let all = cut value 0 c.loop-exponent.buffer.marks.items c.loop-exponent.buffer.powers.items in
    let done : all ≡ terms_in c.args.x (map value c.args.coefs.now) =
    sym (append-nil all) ∙ ap (λ a. all ++ terms_from c.args.x i (map value a)) (sym (nothing_past i c.args.coefs.now c.loop-exponent-test.false)) ∙ c.loop-exponent.invariant.so_far in
    IfOk-weaker c.sum_in.result _ (λ r. SamePolynomial p r (terms_in c.args.x (map value c.args.coefs.now)))
    (λ r h m. h m ∙ ap (λ k. written k m % p) done) c.sum_in.ensures.sum

pub returns-clause-low : goal.returns-clause-low
returns-clause-low g c =
    let value = g.F.Field.value in
    let p = g.F.Field.ORDER in
    let i = c.loop-exponent.exponent in
    let x = c.args.x in
    let coefs = c.args.coefs.now in
    let all = cut value 0 c.loop-exponent.buffer.marks.items c.loop-exponent.buffer.powers.items in
    let done : all ≡ terms_in x (map value coefs) =
    sym (append-nil all) ∙ ap (λ a. all ++ terms_from x i (map value a)) (sym (nothing_past i coefs c.loop-exponent-test.false)) ∙ c.loop-exponent.invariant.so_far in
    low_where (λ r. SamePolynomial p r all) (IsNormal p) (λ r. degree_of r ≤ length coefs - 1) c.sum_in.result
    (λ r same n. degree_within (length coefs - 1) p r (terms_in x (map value coefs)) (omega (arith, g.met.F.Field.prime.least)) n
    (λ m. same m ∙ ap (λ k. written k m % p) done) (within_from (length coefs - 1) x 0 (map value coefs) (omega (arith, length-map coefs value)))) c.sum_in.ensures.sum c.sum_in.ensures.normal
