use Rattle.std.proofs.Common.{◌≡◌, ◌-◌, ◌≤◌, ◌++◌, ◌%◌, length, map, take, replicate, vec_len, ap, ◌∙◌, refl, arith, mod-eq_of_lt}
use Rattle.std.proofs.lemmas.List.{take_all}
use Rattle.ffc_uni.specs.Univariate.{coefficient_at, plus, multiple}
use Rattle.ffc_uni.proofs.Coefficients.{plus_alike}
use Rattle.ffc_uni.proofs.Rows.{written_back, padded}
use Rattle.ffc_uni.proofs.row.sum.Goals as goal

pub returns-clause-same : goal.returns-clause-same
returns-clause-same g c =
    let value = g.F.Field.value in
    let p = g.F.Field.ORDER in
    let a = c.args.a.now in
    let long = c.max.result in
    let zero = c.of.result in
    let room = long - vec_len c.extend_from_slice.new.self in
    let row = multiple (value c.args.c) (map value c.args.b.now) in
    let kept = written_back c.resize.new.self.len c.add_multiple.new.out c.resize.new.self.items (c.add_multiple.auto.out ∙ c.as_mut_slice.ensures.len) in
    let none : value zero ≡ 0 = c.of.ensures ∙ mod-eq_of_lt (omega (arith, g.met.F.Field.prime.least)) in
    let within : length a ≤ long = omega (arith, c.max.ensures) in
    let filled : c.as_mut_slice.result.now ≡ a ++ replicate room zero =
    c.as_mut_slice.ensures.value ∙ c.in_ok-resize.ensures.items
    ∙ ap (λ l. take long l ++ replicate room zero) (c.in_ok-extend_from_slice.ensures.items ∙ ap (λ l. l ++ a) c.new-out.ensures.items)
    ∙ ap (λ l. l ++ replicate room zero) (take_all long a within) in
    λ k.
    ap (λ l. coefficient_at (map value l) k % p) kept
    ∙ c.add_multiple.ensures k
    ∙ ap (λ l. coefficient_at (plus (map value l) row) k % p) filled
    ∙ plus_alike p (map value (a ++ replicate room zero)) (map value a) row row (padded value p a room zero none) (λ j. refl) k
