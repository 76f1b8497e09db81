use Rattle.std.proofs.Common.{◌≡◌, map, ◌∙◌}
use Rattle.std.proofs.lemmas.Result.{IfOk-weaker}
use Rattle.ffc_cktree.specs.Factors.{factor_of}
use Rattle.ffc_cktree.specs.Identities.{is_identity}
use Rattle.ffc_cktree.proofs.ChainLemmas.{identity_alike}
use Rattle.ffc_cktree.proofs.chain.is_identity.Goals as goal

pub returns : goal.returns
returns g c =
    let value = g.F.Field.value in
    let p = g.F.Field.ORDER in
    let factor = factor_of c.args.factor in
    let f = map value c.args.modulus.now in
    let r = map value c.args.power.now in
    let quotient = map value c.args.quotient.now in
    let rest = map value c.args.rest.now in
    IfOk-weaker c.is_short_identity.result _ (λ b. b ≡ is_identity p f factor r quotient rest)
    (λ b is. is ∙ identity_alike p f r quotient rest _ _ _ _ factor c.without_zeros-modulus.ensures.same c.without_zeros-power.ensures.same c.without_zeros-quotient.ensures.same c.without_zeros-rest.ensures.same)
    c.is_short_identity.ensures
