use Rattle.std.proofs.Common.{◌≡◌, ◌%◌, [], ◌∷◌, length, refl, sym, ap, ◌∙◌, subst, arith, mod-eq_of_lt}
use Rattle.ffc_uni.specs.Univariate.{Coefficients, SameUnivariate, coefficient_at, minus}
use Rattle.ffc_single.specs.declared.euclid.Combination.{Combination}
use Rattle.ffc_single.specs.Euclid.{IsEuclid}
use Rattle.ffc_single.proofs.EuclidLemmas.{euclid_start}
use Rattle.ffc_single.proofs.euclid.first_two.Goals as goal

pub returns : goal.returns
returns g c = λ h division.
    (let p = g.F.Field.ORDER in
    let least = g.met.F.Field.prime.least in
    let one : SameUnivariate p c.in_ok-constant.field-0 (1 ∷ []) = λ k. c.in_ok-constant.ensures.same k ∙ ap (λ n. coefficient_at (n ∷ []) k % p) (c.of.ensures ∙ mod-eq_of_lt (omega (arith, least))) in
    let other : SameUnivariate p c.in_ok-constant-2.field-0 (1 ∷ []) = λ k. c.in_ok-constant-2.ensures.same k ∙ ap (λ n. coefficient_at (n ∷ []) k % p) (c.of-2.ensures ∙ mod-eq_of_lt (omega (arith, least))) in
    let nothing : c.in_ok-nothing.nothing ≡ [] = c.in_ok-nothing.ensures in
    let less : SameUnivariate p c.in_ok-sub.field-0 (minus p [] c.args.quotient.now) = λ k. c.in_ok-sub.ensures.difference k ∙ ap (λ l. coefficient_at (minus p l c.args.quotient.now) k % p) nothing in
    let short = c.in_ok-sub.ensures.short in
    let nothing_long = ap length nothing in
    let first : Combination g.row.F.Denot = record { value = c.in_ok-clone.field-0; a = c.in_ok-constant.field-0; b = c.in_ok-zero.field-0 } in
    let second : Coefficients → Combination g.row.F.Denot = λ v. record { value = v; a = c.in_ok-sub.field-0; b = c.in_ok-constant-2.field-0 } in
    subst (λ v. IsEuclid p c.args.g.now h first (second v)) (sym c.rest.view_is)
    (euclid_start p c.args.g.now h c.args.quotient.now c.args.rest first (second c.args.rest) (omega (arith, least)) division c.in_ok-clone.ensures.cases one c.in_ok-constant.ensures.short c.in_ok-zero.ensures
    refl less (omega (arith, short, nothing_long)) other c.in_ok-constant-2.ensures.short))
