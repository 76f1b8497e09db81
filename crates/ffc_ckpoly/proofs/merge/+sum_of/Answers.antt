use Rattle.std.proofs.Common.{◌≡◌, ◌++◌, sym, ap, ◌∙◌, subst, arith, rules, mod-eq_of_lt}
use Rattle.std.proofs.lemmas.Result.{IfOk-weaker}
use Rattle.ffc_ring.specs.Polynomial.{SamePolynomial, scaled}
use Rattle.ffc_ckpoly.specs.Flat.{HaveMonomials}
use Rattle.ffc_ckpoly.specs.Sorted.{residues}
use Rattle.ffc_ckpoly.proofs.Lists.{halved}
use Rattle.ffc_ckpoly.proofs.FlatLemmas.{HaveMonomials-parts}
use Rattle.ffc_ckpoly.proofs.Sums.{SamePolynomial-halves}
use Rattle.ffc_ckpoly.proofs.merge.+sum_of.Goals as goal

pub sum_of-requires : goal.sum_of-requires
sum_of-requires g t c κs within =
    let value = g.F.Field.value in
    let front = residues value c.split_at.result.0.now in
    let back = residues value c.split_at.result.1.now in
    let whole = halved value c.args.terms.now c.split_at.result.0.now c.split_at.result.1.now _ c.split_at.ensures.front c.split_at.ensures.back in
    (omega (arith, c.decreases, c.split_at.ensures.front_len, c.in_default.len_at_least), (search rules, (HaveMonomials-parts front back (subst HaveMonomials (sym whole) c.requires)).0))

pub sum_of-requires-in_default : goal.sum_of-requires-in_default
sum_of-requires-in_default g t c κs within =
    let value = g.F.Field.value in
    let front = residues value c.split_at.result.0.now in
    let back = residues value c.split_at.result.1.now in
    let whole = halved value c.args.terms.now c.split_at.result.0.now c.split_at.result.1.now _ c.split_at.ensures.front c.split_at.ensures.back in
    (omega (arith, c.decreases, c.split_at.ensures.back_len, c.split_at.ensures.front_len, c.in_default.len_at_least), (search rules, (HaveMonomials-parts front back (subst HaveMonomials (sym whole) c.requires)).1))

pub sum_with-requires-clause-c_is : goal.sum_with-requires-clause-c_is
sum_with-requires-clause-c_is g t c e =
    let one : g.F.Field.value c.of.result ≡ 1 = c.of.ensures ∙ mod-eq_of_lt (omega (arith, g.met.F.Field.prime.least)) in omega (arith, one, e)

pub returns-in_ok-back-in_default-clause-same : goal.returns-in_ok-back-in_default-clause-same
returns-in_ok-back-in_default-clause-same g t c =
    let value = g.F.Field.value in
    let p = g.F.Field.ORDER in
    let front = residues value c.split_at.result.0.now in
    let back = residues value c.split_at.result.1.now in
    let all = residues value c.args.terms.now in
    let x = residues value c.in_ok-front-in_default.front.items in
    let y = residues value c.in_ok-back-in_default.back.items in
    let one : value c.of.result ≡ 1 = c.of.ensures ∙ mod-eq_of_lt (omega (arith, g.met.F.Field.prime.least)) in
    let left : residues value c.as_slice.result.now ≡ x = ap (residues value) c.as_slice.ensures.value in
    let right : residues value c.as_slice-in_default.result.now ≡ y = ap (residues value) c.as_slice-in_default.ensures.value in
    let whole = halved value c.args.terms.now c.split_at.result.0.now c.split_at.result.1.now _ c.split_at.ensures.front c.split_at.ensures.back in
    IfOk-weaker c.sum_with.result _ (λ v. SamePolynomial p (residues value v.items) all)
    (λ v h. SamePolynomial-halves p (residues value v.items) x y front back all
    (subst (λ k. SamePolynomial p (residues value v.items) (x ++ scaled k y)) one
    (subst (λ k. SamePolynomial p (residues value v.items) (x ++ scaled (value c.of.result) k)) right
    (subst (λ k. SamePolynomial p (residues value v.items) (k ++ scaled (value c.of.result) (residues value c.as_slice-in_default.result.now))) left h)))
    c.in_ok-front-in_default.ensures.same c.in_ok-back-in_default.ensures.same whole)
    c.sum_with.ensures.same
