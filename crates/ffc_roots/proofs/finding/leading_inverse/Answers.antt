use Rattle.std.proofs.Common.{◌≡◌, ◌-◌, length, map, refl, sym, ap, ◌∙◌, subst, arith}
use Rattle.ffc_field.specs.Modular.{mul_mod}
use Rattle.ffc_uni.specs.Univariate.{IsNormal, coefficient_at}
use Rattle.ffc_roots.proofs.Lists.{length-residues, coefficient_there, leading_nonzero, some_residues}
use Rattle.ffc_roots.proofs.finding.leading_inverse.Goals as goal

pub unreachable-requires : goal.unreachable-requires
unreachable-requires g c =
    let value = g.F.Field.value in
    let coefs = c.coefs-coefs.result.now in
    let some = some_residues value coefs c.args.f.now c.coefs-coefs.ensures.value c.requires in
    leading_nonzero value g.F.Field.ORDER coefs c.index-coefs-coefs.result some c.index-coefs-coefs.is (subst (IsNormal g.F.Field.ORDER) (sym c.coefs-coefs.ensures.value) c.coefs-coefs.ensures.normal) (c.in-None.ensures.zero.0 refl)

pub returns-clause-inverse : goal.returns-clause-inverse
returns-clause-inverse g c =
    let value = g.F.Field.value in
    let p = g.F.Field.ORDER in
    let coefs = c.coefs-coefs.result.now in
    let some = some_residues value coefs c.args.f.now c.coefs-coefs.ensures.value c.requires in
    let last = c.index-coefs-coefs.result in
    let inverse = value c.in-Some.inverse in
    let whole : mul_mod p (coefficient_at (map value coefs) (length (map value coefs) - 1)) inverse ≡ 1 =
    ap (λ n. mul_mod p (coefficient_at (map value coefs) (n - 1)) inverse) (length-residues value coefs)
    ∙ ap (λ n. mul_mod p n inverse) (coefficient_there value coefs (length coefs - 1) last (omega (arith, some)) c.index-coefs-coefs.is)
    ∙ c.in-Some.ensures.inverse in
    subst (λ l. mul_mod p (coefficient_at l (length l - 1)) inverse ≡ 1) c.coefs-coefs.ensures.value whole
