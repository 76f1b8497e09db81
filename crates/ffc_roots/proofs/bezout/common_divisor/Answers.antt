use Rattle.std.proofs.Common.{◌≡◌, ◌%◌, [], ◌∷◌, sym, ap, ◌∙◌, subst, arith, mod-eq_of_lt}
use Rattle.std.proofs.Math.Nat.{mod-mod, zero-mod}
use Rattle.ffc_uni.specs.Univariate.{SameUnivariate, coefficient_at}
use Rattle.ffc_roots.proofs.Euclid.{started_with, bezout_step, spanned_step, spanned_end, IsSpanned}
use Rattle.ffc_roots.proofs.FieldPolynomial.{constant_zero}
use Rattle.ffc_roots.proofs.bezout.common_divisor.Goals as goal

pub loop-first-init : goal.loop-first-init
loop-first-init g c =
    let p = g.F.Field.ORDER in
    let zero = c.in_ok-constant.field-0 in
    let one = c.in_ok-constant-2.field-0 in
    let none : SameUnivariate p zero [] = λ k. c.in_ok-constant.ensures k ∙ constant_zero p (g.F.Field.value c.of.result) (ap (λ n. n % p) c.of.ensures ∙ mod-mod 0 p ∙ zero-mod p) k in
    let unit : SameUnivariate p one (1 ∷ []) = λ k. c.in_ok-constant-2.ensures k ∙ ap (λ n. coefficient_at (n ∷ []) k % p) (c.of-2.ensures ∙ mod-eq_of_lt (omega (arith, g.met.F.Field.prime.least))) in
    let start = started_with p c.args.f.now c.args.h.now zero c.in_ok-clone.field-0 one c.in_ok-clone-2.field-0 c.in_ok-clone.ensures.cases c.in_ok-clone-2.ensures.cases none unit in
    record {
      some = λ nothing. c.requires (sym c.in_ok-clone.ensures.cases ∙ nothing);
      first = start.first;
      second = start.second;
      of_f = start.of_f;
      of_h = start.of_h;
    }

pub loop-first-preserved : goal.loop-first-preserved
loop-first-preserved g c =
    let p = g.F.Field.ORDER in
    let first = c.loop-first.first in
    let second = c.loop-first.second in
    let next = c.in_ok-next.next in
    let step = c.in_ok-next.ensures.step in
    let known = c.loop-first.invariant in
    record {
      some = λ nothing. cc (c.is_zero.ensures.1 nothing, c.loop-first-test.true);
      first = known.second;
      second = bezout_step p c.args.f.now c.args.h.now first.b first.value second.b second.value step.quotient next.b next.value (omega (arith, g.met.F.Field.prime.least)) known.first known.second step.value step.cofactor;
      of_f = spanned_step p c.args.f.now first.value second.value step.quotient next.value known.of_f step.value;
      of_h = spanned_step p c.args.h.now first.value second.value step.quotient next.value known.of_h step.value;
    }

pub returns-clause-divisor : goal.returns-clause-divisor
returns-clause-divisor g c =
    let p = g.F.Field.ORDER in
    let known = c.loop-first.invariant in
    let v = c.loop-first.first.value in
    let none : c.loop-first.second.value ≡ [] = c.is_zero.ensures.0 c.loop-first-test.false in
    record {
      bezout = known.first;
      of_first = spanned_end p c.args.f.now v (subst (IsSpanned p c.args.f.now v) none known.of_f);
      of_second = spanned_end p c.args.h.now v (subst (IsSpanned p c.args.h.now v) none known.of_h);
    }
