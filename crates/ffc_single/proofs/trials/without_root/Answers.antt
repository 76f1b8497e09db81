use Rattle.std.proofs.Common.{◌≡◌, [], ◌∷◌, ◌++◌, length, map, ap, ◌∙◌, subst, arith}
use Rattle.ffc_uni.specs.Univariate.{SameUnivariate, product_of_roots}
use Rattle.ffc_single.proofs.RootLemmas.{without_root}
use Rattle.ffc_single.proofs.trials.without_root.Goals as goal

pub returns-clause-division : goal.returns-clause-division
returns-clause-division g c =
    let p = g.F.Field.ORDER in
    let value = g.F.Field.value in
    let only : c.deref.result.now ≡ c.args.root ∷ [] = c.deref.ensures.value ∙ c.in_ok-push.ensures.items ∙ ap (λ xs. xs ++ c.args.root ∷ []) c.new-only.ensures.items in
    let lower = c.in_ok-quotient.ensures.lower in
    let factor_long = c.in_ok-factor.ensures.long in
    let one = ap length only in
    without_root p g.met.F.Field.prime (value c.args.root) c.args.f.now c.in_ok-factor.factor c.in_ok-quotient.quotient c.in_ok-quotient.field-0-1 (g.met.F.Field.below c.args.root)
    (subst (λ xs. SameUnivariate p c.in_ok-factor.factor (product_of_roots p (map value xs))) only c.in_ok-factor.ensures.product) c.requires c.in_ok-quotient.ensures.division (omega (arith, lower, factor_long, one))
