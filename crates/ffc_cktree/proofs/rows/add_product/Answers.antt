use Rattle.std.proofs.Common.{◌+◌, ◌∷◌, map, drop, sym, ap, ◌∙◌, subst, add-one, ◌%◌}
use Rattle.std.proofs.lemmas.List.{drop_all}
use Rattle.ffc_uni.specs.Univariate.{coefficient_at, SameUnivariate, plus, times}
use Rattle.ffc_uni.specs.Rows.{shifted}
use Rattle.ffc_uni.proofs.Coefficients.{product_end}
use Rattle.ffc_cktree.proofs.SumLemmas.{left_at}
use Rattle.ffc_cktree.proofs.RowLemmas.{product_step}
use Rattle.ffc_cktree.proofs.rows.add_product.Goals as goal

pub loop-place-preserved : goal.loop-place-preserved
loop-place-preserved g c =
    let value = g.F.Field.value in
    let p = g.F.Field.ORDER in
    let a = c.args.a.now in
    let b = map value c.args.b.now in
    let place = c.loop-place.place in
    let x = c.index-a-place.result in
    let old = map value c.loop-place.out in
    let new = map value c.add_shifted.new.out in
    let all = plus (map value c.args.out.now) (times (map value a) b) in
    let rest = map value (drop (place + 1) a) in
    let left = left_at a place x c.loop-place-test.true c.index-a-place.is in
    let so_far : SameUnivariate p (plus old (shifted place (times (map value (x ∷ drop (place + 1) a)) b))) all =
    subst (λ l. SameUnivariate p (plus old (shifted place (times (map value l) b))) all) left c.loop-place.invariant in
    λ k. ap (λ n. coefficient_at (plus new (shifted n (times rest b))) k % p) (add-one place)
    ∙ product_step p place (value x) old b new rest all c.add_shifted.ensures so_far k

pub returns : goal.returns
returns g c =
    let value = g.F.Field.value in
    let p = g.F.Field.ORDER in
    let a = c.args.a.now in
    let b = map value c.args.b.now in
    let place = c.loop-place.place in
    let out = map value c.loop-place.out in
    λ k. sym (product_end p place out b k)
    ∙ ap (λ l. coefficient_at (plus out (shifted place (times (map value l) b))) k % p) (sym (drop_all place a c.loop-place-test.false))
    ∙ c.loop-place.invariant k
