use Rattle.std.proofs.Common.{◌≡◌, map, length, true, sym, ap, ap₂, ◌∙◌}
use Rattle.ffc_uni.proofs.Rows.{length-residues}
use Rattle.ffc_trees.specs.TreeLines.{is_same}
use Rattle.ffc_cktree.specs.Factors.{factor_of}
use Rattle.ffc_cktree.specs.Identities.{product_length, multiplied_length, is_one_longer}
use Rattle.ffc_cktree.proofs.ChainLemmas.{identity_tested}
use Rattle.ffc_cktree.proofs.LengthLemmas.{no_identity_of_longer}
use Rattle.ffc_cktree.proofs.chain.is_short_identity.Goals as goal

pub returns-then-is_one_longer : goal.returns-then-is_one_longer
returns-then-is_one_longer g c =
    let value = g.F.Field.value in
    let factor = factor_of c.args.factor in
    let f = c.args.modulus.now in
    let r = c.args.power.now in
    let quotient = c.args.quotient.now in
    let rest = c.args.rest.now in
    let left : c.multiplied_length-left.result ≡ multiplied_length factor (length (map value r)) =
    c.multiplied_length-left.ensures ∙ ap (multiplied_length factor) (sym (length-residues value r)) in
    let right : c.product_length-right.result ≡ product_length (length (map value quotient)) (length (map value f)) =
    c.product_length-right.ensures ∙ ap₂ product_length (sym (length-residues value quotient)) (sym (length-residues value f)) in
    let longer : is_one_longer (multiplied_length factor (length (map value r))) (product_length (length (map value quotient)) (length (map value f))) (length (map value rest)) ≡ true =
    ap₂ (λ a b. is_one_longer a b (length (map value rest))) (sym left) (sym right)
    ∙ ap (is_one_longer c.multiplied_length-left.result c.product_length-right.result) (length-residues value rest) ∙ sym c.if-is_one_longer.ensures in
    sym (no_identity_of_longer g.F.Field.ORDER g.met.F.Field.prime (map value f) (map value r) (map value quotient) (map value rest)
    c.requires.modulus_is c.requires.power_is c.requires.quotient_is c.requires.rest_is factor longer)

pub returns : goal.returns
returns g c =
    let value = g.F.Field.value in
    let p = g.F.Field.ORDER in
    c.are_same.ensures
    ∙ ap₂ (λ a b. is_same p (map value a) (map value b)) c.as_slice.ensures.value c.as_slice-2.ensures.value
    ∙ identity_tested p (map value c.args.modulus.now) (map value c.args.power.now) (map value c.args.quotient.now) (map value c.args.rest.now)
    (map value c.in_ok-left.left.items) (map value c.in_ok-right.right.items) (factor_of c.args.factor) c.in_ok-left.ensures c.in_ok-right.ensures.sum
