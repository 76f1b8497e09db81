use Rattle.std.proofs.Common.{◌≡◌, ◌-◌, ◌<◌, ◌≤◌, List, ℕ, length, map, sym, ap, ◌∙◌, arith}
use Rattle.ffc_uni.specs.Univariate.{SameUnivariate, times}
use Rattle.ffc_roots.proofs.Degrees.{degree_of_normal, exact}
use Rattle.ffc_roots.proofs.FieldPolynomial.{commuted}
use Rattle.ffc_roots.proofs.Lists.{length-residues}
use Rattle.ffc_roots.proofs.split.parted.Goals as goal

pub returns-clause-parts : goal.returns-clause-parts
returns-clause-parts g c =
    let p = g.F.Field.ORDER in
    let value = g.F.Field.value in
    let factor = c.args.factor in
    let second = c.in_ok-second.second in
    let long : (xs : List g.row.F.Denot) (l : List ℕ) → map value xs ≡ l → length l ≡ length xs = λ xs l same. sym (ap length same) ∙ length-residues value xs in
    let of_factor = long c.coefs-length.result.now factor c.coefs-length.ensures.value in
    let of_f = long c.coefs.result.now c.args.f.now c.coefs.ensures.value in
    let n = length factor - 1 in
    let two : 2 ≤ length factor = omega (arith, of_factor, c.if-length-lt2.false) in
    let less : length factor < length c.args.f.now = omega (arith, of_factor, of_f, c.if-coefs-length.false) in
    let same : SameUnivariate p c.args.f.now (times second factor) =
    exact p c.args.f.now factor second c.requires.0 c.in_ok-second.field-0-1 n g.met.F.Field.prime (degree_of_normal p factor n c.coefs-length.ensures.normal (omega arith)) c.in_ok-second.ensures.division c.requires.1 (omega (arith, c.in_ok-second.ensures.lower)) in
    record {
      some = two;
      fewer = less;
      rest = omega (arith, c.in_ok-second.ensures.short);
      product = λ k. same k ∙ commuted p second factor k;
    }
