use Rattle.std.proofs.Common.{◌≡◌, ◌-◌, ◌++◌, ◌%◌, [], length, map, replicate, vec_len, take_all, ap, ◌∙◌, arith, mod-eq_of_lt}
use Rattle.ffc_uni.specs.Univariate.{coefficient_at, plus, times}
use Rattle.ffc_uni.proofs.Coefficients.{zeros_added}
use Rattle.ffc_uni.proofs.Rows.{written_back, padded}
use Rattle.ffc_cktree.proofs.rows.square_of.Goals as goal

pub returns : goal.returns
returns g c =
    let value = g.F.Field.value in
    let p = g.F.Field.ORDER in
    let long = c.saturating_sub.result in
    let none = c.of.result in
    let room = long - vec_len c.new-out.result in
    let square = times (map value c.args.a.now) (map value c.args.a.now) in
    let kept = written_back c.resize.new.self.len c.add_square.new.out c.resize.new.self.items (c.add_square.auto.out ∙ c.as_mut_slice.ensures.len) in
    let zero_is : value none ≡ 0 = c.of.ensures ∙ mod-eq_of_lt (omega (arith, g.met.F.Field.prime.least)) in
    let filled : c.as_mut_slice.result.now ≡ [] ++ replicate room none =
    c.as_mut_slice.ensures.value ∙ c.in_ok-resize.ensures.items
    ∙ ap (λ l. l ++ replicate room none) (take_all long c.new-out.result.items (omega (arith, ap length c.new-out.ensures.items)) ∙ c.new-out.ensures.items) in
    λ k.
    ap (λ l. coefficient_at (map value l) k % p) kept
    ∙ c.add_square.ensures k
    ∙ ap (λ l. coefficient_at (plus (map value l) square) k % p) filled
    ∙ zeros_added p (map value ([] ++ replicate room none)) square (padded value p [] room none zero_is) k
