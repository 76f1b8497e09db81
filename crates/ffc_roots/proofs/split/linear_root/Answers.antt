use Rattle.std.proofs.Common.{◌≡◌, [], ◌∷◌, length, refl, sym, ap, ◌∙◌, subst, arith}
use Rattle.ffc_field.specs.Modular.{neg_mod}
use Rattle.ffc_uni.specs.Univariate.{IsNormal}
use Rattle.ffc_roots.specs.Parts.{HasRoots}
use Rattle.ffc_roots.proofs.Apart.{linear_has_root}
use Rattle.ffc_roots.proofs.Lists.{length-residues, two_residues}
use Rattle.ffc_roots.proofs.split.linear_root.Goals as goal

pub unreachable-requires : goal.unreachable-requires
unreachable-requires g c =
    let value = g.F.Field.value in
    let coefs = c.coefs-coefs.result.now in
    let long : length coefs ≡ 2 = omega (arith, sym (ap length c.coefs-coefs.ensures.value), length-residues value coefs, c.requires) in
    let listed = two_residues value coefs c.index-coefs-0.result c.index-coefs-1.result long c.index-coefs-0.is c.index-coefs-1.is in
    (subst (IsNormal g.F.Field.ORDER) (sym c.coefs-coefs.ensures.value ∙ listed) c.coefs-coefs.ensures.normal).1.1 (c.in-None.ensures.zero.0 refl)

pub returns : goal.returns
returns g c =
    let p = g.F.Field.ORDER in
    let value = g.F.Field.value in
    let coefs = c.coefs-coefs.result.now in
    let a = c.index-coefs-0.result in
    let b = c.index-coefs-1.result in
    let long : length coefs ≡ 2 = omega (arith, sym (ap length c.coefs-coefs.ensures.value), length-residues value coefs, c.requires) in
    let listed = two_residues value coefs a b long c.index-coefs-0.is c.index-coefs-1.is in
    subst (λ l. HasRoots p l (value c.neg.result ∷ [])) (sym listed ∙ c.coefs-coefs.ensures.value)
    (linear_has_root p (value a) (value b) (value c.in-Some.inverse) (value c.neg.result) (omega (arith, g.met.F.Field.prime.least)) c.in-Some.ensures.inverse (c.neg.ensures ∙ ap (neg_mod p) c.mul.ensures))
