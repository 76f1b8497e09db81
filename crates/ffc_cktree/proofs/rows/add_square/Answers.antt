use Rattle.std.proofs.Common.{◌≡◌, ◌+◌, ◌-◌, ◌∷◌, [], length, map, take, drop, sym, ap, ◌∙◌, subst, ◌%◌, arith, take_all, length-drop}
use Rattle.std.proofs.Math.Nat.{mod-mod}
use Rattle.std.proofs.lemmas.List.{drop_all}
use Rattle.ffc_uni.specs.Univariate.{coefficient_at, SameUnivariate, plus, multiple, times}
use Rattle.ffc_uni.specs.Rows.{shifted}
use Rattle.ffc_uni.proofs.Coefficients.{product_end}
use Rattle.ffc_cktree.proofs.SumLemmas.{left_at}
use Rattle.ffc_cktree.proofs.SquareLemmas.{square_step}
use Rattle.ffc_cktree.proofs.rows.add_square.Goals as goal

pub loop-place-preserved : goal.loop-place-preserved
loop-place-preserved g c =
    let value = g.F.Field.value in
    let p = g.F.Field.ORDER in
    let a = c.args.a.now in
    let place = c.loop-place.place in
    let x = c.index-a-place.result in
    let y = value c.add.result in
    let old = map value c.loop-place.out in
    let one = map value c.add_shifted.new.out in
    let two = map value c.add_shifted-in-loop-place.new.out in
    let all = plus (map value c.args.out.now) (times (map value a) (map value a)) in
    let tail = drop (place + 1) a in
    let left = left_at a place x c.loop-place-test.true c.index-a-place.is in
    let so_far : SameUnivariate p (plus old (shifted (place + place) (times (map value (x ∷ tail)) (map value (x ∷ tail))))) all =
    subst (λ l. SameUnivariate p (plus old (shifted (place + place) (times (map value l) (map value l)))) all) left c.loop-place.invariant in
    let whole : take (length a - (place + 1)) tail ≡ tail = take_all (length a - (place + 1)) tail (omega (arith, length-drop (place + 1) a)) in
    let second : SameUnivariate p two (plus one (shifted (place + place + 1) (multiple y (map value tail)))) =
    subst (λ l. SameUnivariate p two (plus one (shifted (place + place + 1) (multiple y (map value l))))) whole c.add_shifted-in-loop-place.ensures in
    square_step p place (value x) y old (map value tail) one two all (ap (λ k. k % p) c.add.ensures ∙ mod-mod (value x + value x) p) c.add_shifted.ensures second so_far

pub returns : goal.returns
returns g c =
    let value = g.F.Field.value in
    let p = g.F.Field.ORDER in
    let a = c.args.a.now in
    let place = c.loop-place.place in
    let out = map value c.loop-place.out in
    λ k. sym (product_end p (place + place) out [] k)
    ∙ ap (λ l. coefficient_at (plus out (shifted (place + place) (times (map value l) (map value l)))) k % p) (sym (drop_all place a c.loop-place-test.false))
    ∙ c.loop-place.invariant k
