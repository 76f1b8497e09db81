use Rattle.std.proofs.Common.{◌≡◌, ◌%◌, ◌≤◌, [], ◌∷◌, ◌++◌, length, map, ap, ◌∙◌, arith, mod-eq_of_lt}
use Rattle.ffc_uni.specs.Univariate.{SameUnivariate, coefficient_at}
use Rattle.ffc_roots.proofs.Cases.{IfOk-both}
use Rattle.ffc_roots.proofs.Degrees.{two_coefficients}
use Rattle.ffc_roots.proofs.split.x_plus.Goals as goal

pub returns-clause-long : goal.returns-clause-long
returns-clause-long g c =
    let p = g.F.Field.ORDER in
    let value = g.F.Field.value in
    let coefs = c.deref.result.now in
    let listed : coefs ≡ c.args.c ∷ c.of.result ∷ [] =
    c.deref.ensures.value ∙ c.in_ok-push-2.ensures.items ∙ ap (λ l. l ++ c.of.result ∷ []) (c.in_ok-push.ensures.items ∙ ap (λ l. l ++ c.args.c ∷ []) c.new-coefs.ensures.items) in
    let one : value c.of.result ≡ 1 = c.of.ensures ∙ mod-eq_of_lt (omega (arith, g.met.F.Field.prime.least)) in
    IfOk-both c.from_coefs.result (λ x. SameUnivariate p x (map value coefs)) (λ x. length x ≤ length coefs) (λ x. length x ≡ 2)
    (λ x same short.
    two_coefficients p (value c.args.c) x (omega (arith, g.met.F.Field.prime.least))
    (λ k. same k ∙ ap (λ l. coefficient_at (map value l) k % p) listed ∙ ap (λ n. coefficient_at (value c.args.c ∷ n ∷ []) k % p) one)
    (omega (arith, short, ap length listed)))
    c.from_coefs.ensures.same c.from_coefs.ensures.short
